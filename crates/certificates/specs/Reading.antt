-- Invariants while certificates are read, and the possible results of reading them (own).
use Rattle.std.specs.Prelude.{◌≡◌, ◌⊎◌, ℕ, ◌+◌, ◌<◌, ◌≤◌, ◌++◌, Bool, List, length}
use Rattle.cs_outside.specs.Outside.{SourceState}
use Rattle.cs_outside.specs.Streams.{HasRead, HasReadAll, HasFailedAfter, IsAtEnd}
use Rattle.tail_cert.specs.Certificate.{Held}
use Rattle.tail_cert.specs.Form.{most_count, head_count, count_of, bytes_of, Breaks, IsFirstBreak}
use Rattle.certificates.specs.declared.error.StreamError.{StreamError}
use Rattle.certificates.specs.declared.error.StreamError.TheVariants.{Broken as BrokenAt, TooLong, ReadFault, OutOfMemory}
use Rattle.certificates.specs.declared.reading.Step.{Step}
use Rattle.certificates.specs.declared.reading.Step.TheVariants.{Partial, Whole, Broken}
use Rattle.certificates.specs.Stream.{most_bytes, IsAnswer, AreAnswers, IsFirstBroken, IsBrokenAt, IsUnbroken}

-- ---- one certificate

-- no byte in `part`, the first bytes of a certificate, breaks the format
abbrev pub IsSound : List ℕ → Type 0
IsSound part = (place : ℕ) → place < length part → Breaks part place → ⊥

-- `aim` is the number of bytes up to which a certificate may be read after its bytes `part`: up to and including its
-- set of start states, or up to its end once the set is read
abbrev pub IsAim : List ℕ → ℕ → Type 0
IsAim part aim = (aim ≡ head_count) ⊎ ((head_count ≤ length part) × (aim ≡ count_of part))

-- the state of a certificate after its bytes `part` were read: incomplete; complete, with the answer whether it is
-- accepted; or broken, with the first format error's offset
abbrev pub IsStep : List ℕ → Step → Type 0
IsStep part (Partial aim) = (length part < aim) × IsAim part aim × IsSound part
IsStep part (Whole answer) = (certificate : Held) × IsAnswer certificate answer × (part ≡ bytes_of certificate)
IsStep part (Broken place) = (place < length part) × IsFirstBreak part place

-- ---- the whole input

-- certificates were read to the end of the input, and `answers` states in order whether each is accepted
pub record HasReadAnswers (answers : List Bool) (before now : SourceState) : Type 0 where
  pub bytes : List ℕ
  pub are_answers : AreAnswers bytes answers
  pub whole : HasReadAll most_bytes bytes before now

-- The first format error in the bytes read is at offset `place`. Either the input ended, or the offset is the same for
-- every continuation. From `place`, at most the length of the longest certificate was read, and in all at most
-- `most_bytes` + 1 bytes.
pub record HasReadBroken (place : ℕ) (before now : SourceState) : Type 0 where
  pub bytes : List ℕ
  pub read : HasRead bytes before now
  pub broken : IsBrokenAt bytes place
  pub near : length bytes ≤ place + most_count
  pub few : length bytes ≤ most_bytes + 1
  pub settled : IsAtEnd now ⊎ ((rest : List ℕ) → IsBrokenAt (bytes ++ rest) place)

-- `most_bytes` + 1 bytes were read, and none of the first `most_bytes` breaks the format, whatever follows
pub record HasReadTooMany (before now : SourceState) : Type 0 where
  pub front : List ℕ
  pub read : HasRead front before now
  pub past : length front ≡ most_bytes + 1
  pub unbroken : (rest : List ℕ) (place : ℕ) → IsFirstBroken (front ++ rest) place → most_bytes ≤ place

-- a read failed after at most `most_bytes` bytes, and none of these bytes breaks the format
pub record HasFailedUnbroken (before now : SourceState) : Type 0 where
  pub front : List ℕ
  pub failed : HasFailedAfter most_bytes front before now
  pub unbroken : IsUnbroken front

-- what happened in the source for each error with which reading certificates may end; nothing is stated about a failed
-- allocation
abbrev pub IsCause : SourceState → SourceState → StreamError → Type 0
IsCause before now (BrokenAt place) = HasReadBroken place before now
IsCause before now TooLong = HasReadTooMany before now
IsCause before now ReadFault = HasFailedUnbroken before now
IsCause before now OutOfMemory = Unit {0}
