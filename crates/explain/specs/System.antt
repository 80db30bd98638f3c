-- The system information of an entry: SystemInformationBlockType1, which subframe 5 of even-numbered frames carries (TS
-- 36.331 section 5.2.1.2). The choice of the frames that are tried is own.
use Rattle.std.specs.Prelude.{◌≡◌, ◌≢◌, ℕ, ◌+◌, ◌*◌, ◌%◌, ◌<◌, List, Result, Ok, Err}
use Rattle.cs_num.specs.declared.Sample.{Sample}
use Rattle.lte_types.specs.CellPlace.{Place}
use Rattle.lte_types.specs.declared.carrier.Carrier.{Carrier}
use Rattle.lte_types.specs.Carrier.{ports_of}
use Rattle.lte_types.specs.declared.bandwidth.Bandwidth.{Bandwidth}
use Rattle.lte_types.specs.declared.bandwidth.Bandwidth.TheVariants.{N6}
use Rattle.lte_types.specs.declared.mib.Mib.{Mib}
use Rattle.lte_types.specs.declared.sib1.Sib1.{Sib1}
use Rattle.lte_types.specs.declared.sib1_reason.Sib1Reason.{Sib1Reason}
use Rattle.lte_types.specs.declared.sib1_reason.Sib1Reason.TheVariants.{NotOnePort, Bandwidth as OtherWidth}
use Rattle.sib1_reader.specs.Attempt.{Reads}
use Rattle.explain.specs.Frame.{IsWhole}
use Rattle.explain.specs.Receiver.{Receiver, Subframes}
use Rattle.explain.specs.Decoded.{Answering, Informing}

-- ---- the frames that are tried; `Answers` gives each answer, by its frame counted from the first

-- the index of a cell's even-numbered frame i, counted from its first frame, which has the system frame number sfn
abbrev pub even_frame : ℕ → ℕ → ℕ
even_frame sfn i = sfn % 2 + 2 * i

-- even-numbered frame i is tried: it is among the first eight, and lies within the recording
pub record IsTried (recording : List Sample) (start sfn i : ℕ) : Type 0 where
  pub among : i < 8
  pub whole : IsWhole recording start (even_frame sfn i)

-- `fields` are the SIB1 fields of the first tried frame that carries any
pub record IsFirstRead (Answers : Answering) (recording : List Sample) (start sfn : ℕ) (fields : Sib1) : Type 0 where
  pub i : ℕ
  pub tried : IsTried recording start sfn i
  pub answers : Answers (even_frame sfn i) (Ok fields)
  pub first : (h : ℕ) (other : Sib1) → h < i → Answers (even_frame sfn h) (Ok other) → ⊥

-- no tried frame carries SIB1 fields, and `reason` is that of the first even-numbered frame
pub record IsNoneRead (Answers : Answering) (recording : List Sample) (start sfn : ℕ) (reason : Sib1Reason) :
    Type 0 where
  pub none : (i : ℕ) (fields : Sib1) → IsTried recording start sfn i → Answers (even_frame sfn i) (Ok fields) → ⊥
  pub refused : Answers (even_frame sfn 0) (Err reason)

-- the SIB1 fields of the first tried frame that carries any; if none does, the reason of the first even-numbered frame
abbrev pub IsReadFrom : Answering → List Sample → ℕ → ℕ → Result Sib1 Sib1Reason → Type 0
IsReadFrom Answers recording start sfn (Ok fields) = IsFirstRead Answers recording start sfn fields
IsReadFrom Answers recording start sfn (Err reason) = IsNoneRead Answers recording start sfn reason

-- ---- the first rule that applies

-- the reported reason applies: the cell's antenna port count `ports` is not the transmission scheme's, `wanted`
pub record HasOtherPorts (wanted ports reported : ℕ) : Type 0 where
  pub reported_is : reported ≡ ports
  pub other : ports ≢ wanted

-- the reported reason applies: the cell has the transmission scheme's antenna port count, but is not 6 resource blocks
-- wide
pub record HasOtherWidth (wanted ports : ℕ) (width reported : Bandwidth) : Type 0 where
  pub as_wanted : ports ≡ wanted
  pub reported_is : reported ≡ width
  pub other : width ≢ N6

-- the cell has the transmission scheme's antenna port count and 6 resource blocks, and `sib1` is read from its frames
pub record IsSearched (Answers : Answering) (recording : List Sample) (start sfn : ℕ) (carrier : Carrier) (ports : ℕ)
    (width : Bandwidth) (sib1 : Result Sib1 Sib1Reason) : Type 0 where
  pub as_wanted : ports ≡ ports_of carrier
  pub six_blocks : width ≡ N6
  pub read : IsReadFrom Answers recording start sfn sib1

-- a cell's system information for a transmission scheme, or the first reason that applies: the antenna port count, the
-- width, then the frames
abbrev pub IsSystemBy : Carrier → Answering → List Sample → ℕ → ℕ → ℕ → Mib → Result Sib1 Sib1Reason → Type 0
IsSystemBy carrier Answers recording start sfn ports mib (Err (NotOnePort reported)) =
    HasOtherPorts (ports_of carrier) ports reported
IsSystemBy carrier Answers recording start sfn ports mib (Err (OtherWidth reported)) =
    HasOtherWidth (ports_of carrier) ports mib.bandwidth reported
IsSystemBy carrier Answers recording start sfn ports mib sib1 =
    IsSearched Answers recording start sfn carrier ports mib.bandwidth sib1

-- ---- the system information for a receiver

-- the system information in frame j of the cell at `place`, or the reason for its absence, from the soft values of
-- subframe 5
abbrev pub FrameAnswers : Subframes → List Sample → Place → Mib → Answering
FrameAnswers values recording place mib j answer = Reads (values recording place j mib.duration mib.resource) answer

-- a cell's system information, read from the soft values of subframe 5, or the reason why the receiver does not read it
abbrev pub IsSystemWith : Carrier → Result Subframes Sib1Reason → List Sample → Informing
IsSystemWith carrier (Ok values) recording place sfn ports mib sib1 =
    IsSystemBy carrier (FrameAnswers values recording place mib) recording place.start sfn ports mib sib1
IsSystemWith carrier (Err reason) recording place sfn ports mib sib1 = sib1 ≡ Err reason

-- the system information that a receiver reads for the cell at a place, given its first system frame number, its
-- antenna port count and its MIB
abbrev pub IsSystemFor : Receiver → List Sample → Informing
IsSystemFor receiver = IsSystemWith receiver.carrier receiver.subframe
