-- The estimated frequency offset of a recording. (own)
use Rattle.std.specs.Prelude.{◌≡◌, ◌⊎◌, ℕ, ◌<◌, List, [], All, HoldsAt, length, ℤ, pos, Option, Some, None}
use Rattle.std.specs.List.{AllWithin}
use Rattle.cs_num.specs.declared.Sample.{Sample}
use Rattle.lte_types.specs.declared.entry.Entry.{Entry}
use Rattle.explain.specs.Entries.{IsExplained}
use Rattle.frequency_offset.specs.declared.candidate.Candidate.{Candidate}
use Rattle.frequency_offset.specs.declared.estimation.OffsetEstimate.{OffsetEstimate}
use Rattle.frequency_offset.specs.Turned.{turned}
use Rattle.frequency_offset.specs.Candidates.{taken_of}

-- the cell list of `recording` has `count` entries
pub record HasCells (recording : List Sample) (count : ℕ) : Type 0 where
  pub list : List Entry
  pub explained : IsExplained recording list
  pub many : length list ≡ count

-- `estimate` has the offset and the hit count of `candidate`, and the number of cells in the recording corrected by
-- that offset
pub record Estimates (recording : List Sample) (candidate : Candidate) (estimate : OffsetEstimate) :
    Type 0 where
  pub turn : estimate.turn ≡ candidate.turn
  pub hits : estimate.hits ≡ candidate.hits
  pub cells : HasCells (turned recording candidate.turn) estimate.cells

-- the recording corrected by the candidate's offset has no cells
abbrev pub IsSilent : List Sample → Candidate → Type 0
IsSilent recording candidate = HasCells (turned recording candidate.turn) 0

-- `estimate` belongs to the first candidate in `taken` whose corrected recording has a cell; `place` is the candidate's
-- index
pub record IsFirstWithCells (recording : List Sample) (taken : List Candidate) (estimate : OffsetEstimate) :
    Type 0 where
  pub place : ℕ
  pub inside : place < length taken
  pub silent : AllWithin (IsSilent recording) taken 0 place
  pub estimates : HoldsAt (λ candidate. Estimates recording candidate estimate) taken place
  pub some : 0 < estimate.cells

-- no candidate in `taken` gives a cell, and `estimate` belongs to the first candidate
pub record IsFirstWithoutCells (recording : List Sample) (taken : List Candidate) (estimate : OffsetEstimate) :
    Type 0 where
  pub inside : 0 < length taken
  pub silent : All (IsSilent recording) taken
  pub estimates : HoldsAt (λ candidate. Estimates recording candidate estimate) taken 0

-- the estimate from the candidates in `taken`; none if `taken` is empty
abbrev pub IsEstimatedBy : List Sample → List Candidate → Option OffsetEstimate → Type 0
IsEstimatedBy recording taken None = taken ≡ []
IsEstimatedBy recording taken (Some estimate) =
    IsFirstWithCells recording taken estimate ⊎ IsFirstWithoutCells recording taken estimate

-- `estimate` is the estimated frequency offset of `recording`
abbrev pub IsEstimated : List Sample → Option OffsetEstimate → Type 0
IsEstimated recording estimate = IsEstimatedBy recording (taken_of recording) estimate

-- the estimated frequency offset in steps of 117.1875 Hz; 0 without an estimate
abbrev pub turn_of : Option OffsetEstimate → ℤ
turn_of None = pos 0
turn_of (Some estimate) = estimate.turn

-- `applied` is `recording` corrected by its estimated frequency offset
pub record IsApplied (recording applied : List Sample) : Type 0 where
  pub estimate : Option OffsetEstimate
  pub is_estimated : IsEstimated recording estimate
  pub samples : applied ≡ turned recording (turn_of estimate)
