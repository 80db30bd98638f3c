-- The effect of calls on the known state of a source or a sink (own).
use Rattle.std.specs.Prelude.{◌≡◌, ℕ, ◌+◌, ◌<◌, ◌≤◌, length, IfSome, List, [], ◌++◌}
use Rattle.std.specs.Option.{option_map}
use Rattle.cs_outside.specs.Counts.{Rose}
use Rattle.cs_outside.specs.Outside.{SourceState, SinkState}

-- ---- reading

-- if the source's remaining bytes are known, they were `bytes` followed by the bytes that remain now
abbrev pub AreNext : List ℕ → SourceState → SourceState → Type 0
AreNext bytes before now = before.left ≡ option_map (λ rest. bytes ++ rest) now.left

-- `bytes` were read from the source without a fault
pub record HasRead (bytes : List ℕ) (before now : SourceState) : Type 0 where
  pub in_order : AreNext bytes before now
  pub unfailed : now.faults ≡ before.faults

-- the source's input is at its end, if its remaining bytes are known
abbrev pub IsAtEnd : SourceState → Type 0
IsAtEnd now = IfSome now.left (λ rest. rest ≡ [])

-- `bytes` are the source's input up to its end, were read without a fault, and are at most `limit` bytes
pub record HasReadAll (limit : ℕ) (bytes : List ℕ) (before now : SourceState) : Type 0 where
  pub read : HasRead bytes before now
  pub ended : IsAtEnd now
  pub within : length bytes ≤ limit

-- n bytes were read and appended to the buffer content `old`, which gave `new`; n is 0 only at the end of the input
pub record HasReadOn (n : ℕ) (old new : List ℕ) (before now : SourceState) : Type 0 where
  pub piece : List ℕ
  pub count : length piece ≡ n
  pub joined : new ≡ old ++ piece
  pub read : HasRead piece before now
  pub end : n ≡ 0 → IsAtEnd now

-- `limit` + 1 bytes were read from the source without a fault
pub record HasReadPast (limit : ℕ) (before now : SourceState) : Type 0 where
  pub front : List ℕ
  pub read : HasRead front before now
  pub past : length front ≡ limit + 1

-- at most `limit` + 1 bytes were read from the source without a fault
pub record HasReadPart (limit : ℕ) (before now : SourceState) : Type 0 where
  pub front : List ℕ
  pub read : HasRead front before now
  pub few : length front ≤ limit + 1

-- `bytes`, at most `limit` of them, were read from the source, and a call failed
pub record HasFailedAfter (limit : ℕ) (bytes : List ℕ) (before now : SourceState) : Type 0 where
  pub in_order : AreNext bytes before now
  pub within : length bytes ≤ limit
  pub failed : Rose before.faults now.faults

-- a call to the source failed after at most `limit` bytes were read
pub record HasReadFault (limit : ℕ) (before now : SourceState) : Type 0 where
  pub front : List ℕ
  pub failed : HasFailedAfter limit front before now

-- ---- writing

-- `bytes` were appended to the bytes written before, if those are known, and reduced the free space, if it is known
pub record AreTaken (bytes : List ℕ) (before now : SinkState) : Type 0 where
  pub appended : now.taken ≡ option_map (λ taken. taken ++ bytes) before.taken
  pub filled : before.room ≡ option_map (λ room. room + length bytes) now.room

-- `bytes` were written to the sink without a fault
pub record HasWritten (bytes : List ℕ) (before now : SinkState) : Type 0 where
  pub taken : AreTaken bytes before now
  pub unfailed : now.faults ≡ before.faults

-- a prefix of `piece` was written to the sink, and nothing else
pub record HasWrittenFront (piece : List ℕ) (before now : SinkState) : Type 0 where
  pub front : List ℕ
  pub rest : List ℕ
  pub split : piece ≡ front ++ rest
  pub taken : AreTaken front before now

-- the sink's free space, if known, is less than n bytes
abbrev pub IsShortOf : ℕ → SinkState → Type 0
IsShortOf n before = IfSome before.room (λ room. room < n)
