-- The indicator and the grant with which system information was read. (own)
use Rattle.std.specs.Prelude.{◌≡◌, ℕ, ◌<◌, List, Option, Some, None, Result, Ok, Err}
use Rattle.cs_num.specs.declared.Sample.{Sample}
use Rattle.lte_types.specs.declared.sib1.Sib1.{Sib1}
use Rattle.lte_types.specs.declared.sib1_reason.Sib1Reason.{Sib1Reason}
use Rattle.lte_types.specs.CellPlace.{Place}
use Rattle.lte_types.specs.declared.mib.Mib.{Mib}
use Rattle.lte_types.specs.declared.entry.Entry.{Entry}
use Rattle.dci.specs.declared.grant.Grant.{Grant}
use Rattle.sib1_reader.specs.declared.reading.Attempt.{Attempt}
use Rattle.sib1_reader.specs.Attempt.{IsAttempt, granted_by}
use Rattle.explain.specs.Receiver.{Receiver, Subframes, one_port_receiver}
use Rattle.explain.specs.Decoded.{Answering, Attempting, Granting}
use Rattle.explain.specs.System.{even_frame, IsTried}
use Rattle.explain.specs.Entries.{place_of}

-- ---- the frames that are tried; `Attempts` gives each attempt, by its frame counted from the first

-- the first tried frame whose attempt yields SIB1 fields has the control format indicator and the grant `found`, and
-- `sib1` is those fields
pub record IsReadBy (Attempts : Attempting) (recording : List Sample) (start sfn : ℕ) (sib1 : Result Sib1 Sib1Reason)
    (found : ℕ × Grant) : Type 0 where
  pub i : ℕ
  pub tried : IsTried recording start sfn i
  pub fields : Sib1
  pub attempt : Attempts (even_frame sfn i) (record { cfi = found.0; grant = Some found.1; answer = Ok fields })
  pub first : (h : ℕ) (attempt : Attempt) (other : Sib1) → h < i → Attempts (even_frame sfn h) attempt →
      attempt.answer ≡ Ok other → ⊥
  pub answers : sib1 ≡ Ok fields

-- the control format indicator and the grant with which the SIB1 fields were read; none if there are no fields
abbrev pub IsGrantBy : Attempting → List Sample → ℕ → ℕ → Result Sib1 Sib1Reason → Option (ℕ × Grant) → Type 0
IsGrantBy Attempts recording start sfn sib1 (Some found) = IsReadBy Attempts recording start sfn sib1 found
IsGrantBy Attempts recording start sfn sib1 None = (fields : Sib1) → sib1 ≡ Ok fields → ⊥

-- each frame's answer is that of its attempt, and an attempt that yields SIB1 fields has a grant
pub record AreAttempts (Attempts : Attempting) (Answers : Answering) : Type 0 where
  pub answers : (j : ℕ) (attempt : Attempt) → Attempts j attempt → Answers j attempt.answer
  pub granted : (j : ℕ) (attempt : Attempt) (fields : Sib1) → Attempts j attempt → attempt.answer ≡ Ok fields →
      granted_by attempt ≡ None → ⊥

-- ---- the grant that a receiver reads

-- the attempt to read system information in frame j of the cell at `place`, from the soft values of subframe 5
abbrev pub IsFrameAttempt : Subframes → List Sample → Place → Mib → Attempting
IsFrameAttempt values recording place mib j attempt =
    IsAttempt (values recording place j mib.duration mib.resource) attempt

-- the control format indicator and the grant with which system information is read from the soft values of subframe 5;
-- none if the receiver has no such values
abbrev pub IsGrantWith : Result Subframes Sib1Reason → List Sample → Granting
IsGrantWith (Ok values) recording place sfn mib sib1 found =
    IsGrantBy (IsFrameAttempt values recording place mib) recording place.start sfn sib1 found
IsGrantWith (Err reason) recording place sfn mib sib1 found = found ≡ None

-- the control format indicator and the grant with which a receiver reads the system information of the cell at a place
abbrev pub IsGrantFor : Receiver → List Sample → Granting
IsGrantFor receiver = IsGrantWith receiver.subframe

-- the control format indicator and the grant with which an entry's system information was read, with one antenna port
abbrev pub IsGrantOf : List Sample → Entry → Option (ℕ × Grant) → Type 0
IsGrantOf recording entry found =
    IsGrantFor one_port_receiver recording (place_of entry) entry.sfn entry.mib entry.sib1 found

-- a law: for any receiver, there is only one control format indicator and grant with which a cell's system information
-- was read
abbrev pub IsOneGrant : Type 0
IsOneGrant = (receiver : Receiver) (recording : List Sample) (place : Place) (sfn : ℕ) (mib : Mib)
    (sib1 : Result Sib1 Sib1Reason) (a b : Option (ℕ × Grant)) → IsGrantFor receiver recording place sfn mib sib1 a →
    IsGrantFor receiver recording place sfn mib sib1 b → a ≡ b
