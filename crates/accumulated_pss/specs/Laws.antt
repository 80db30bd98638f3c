-- Laws of the accumulated correlation and its candidates. (own)
use Rattle.std.specs.Prelude.{◌≡◌, ◌≢◌, ℕ, ◌<◌, ◌≤◌, ◌↔◌, List, true, length}
use Rattle.std.specs.List.{Contains, AllPairs}
use Rattle.cs_num.specs.declared.Sample.{Sample}
use Rattle.sample_file.specs.Recording.{AgreeBefore}
use Rattle.accumulated_pss.specs.Sums.{IsPosition, IsComplete, covered, half_frames_in, one, ratio_at, accumulated, row_of, sum_at}
use Rattle.accumulated_pss.specs.Tests.{is_maximum}
use Rattle.accumulated_pss.specs.Maxima.{IsMaximum, IsCandidate, distance, candidates}

-- ---- sums

-- half-frame `half` of `count` samples is complete exactly if it is counted
abbrev pub HalfFramesAreComplete : Type 0
HalfFramesAreComplete = (count half : ℕ) → half < half_frames_in count ↔ IsComplete count half

-- a ratio is below 1, so that the sum over 255 half-frames is below 2^32
abbrev pub RatiosAreBelowOne : Type 0
RatiosAreBelowOne = (recording : List Sample) (n2 t : ℕ) → ratio_at recording n2 t < one

-- a row holds the sum at each position
abbrev pub RowsHoldSums : Type 0
RowsHoldSums = (recording : List Sample) (halves n2 t : ℕ) → IsPosition t →
    sum_at (row_of recording halves n2) t ≡ accumulated recording halves n2 t

-- recordings that agree in the samples that `halves` half-frames cover have the same rows of sums over them
abbrev pub FirstSamplesDecide : Type 0
FirstSamplesDecide = (halves n2 : ℕ) (first second : List Sample) → AgreeBefore (covered halves) first second →
    row_of first halves n2 ≡ row_of second halves n2

-- ---- candidates

-- for each position, the Boolean test `is_maximum` agrees with the definition `IsMaximum`
abbrev pub TestIsRight : Type 0
TestIsRight = (row : List ℕ) (t : ℕ) → IsPosition t →
    (is_maximum row t ≡ true → IsMaximum row t) × (IsMaximum row t → is_maximum row t ≡ true)

-- a row's list of candidates contains exactly the candidates
abbrev pub ListIsRight : Type 0
ListIsRight = (row : List ℕ) (t : ℕ) → Contains (candidates row) t ↔ IsCandidate row t

-- the list of candidates is in strictly ascending order, so no candidate is listed twice
abbrev pub ListIsInOrder : Type 0
ListIsInOrder = (row : List ℕ) → AllPairs ◌<◌ (candidates row)

-- two candidates of one primary signal are more than nine positions apart
abbrev pub CandidatesAreApart : Type 0
CandidatesAreApart = (row : List ℕ) (t u : ℕ) → IsCandidate row t → IsCandidate row u → t ≢ u → 9 < distance t u

-- a primary signal has at most 64 candidates
abbrev pub ListIsShort : Type 0
ListIsShort = (row : List ℕ) → length (candidates row) ≤ 64
