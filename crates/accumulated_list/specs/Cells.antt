-- Cells that are detected over many half-frames, and the list of them. (own)
use Rattle.std.specs.Prelude.{◌≡◌, ◌⊎◌, ◌↔◌, true, ℕ, ◌*◌, ◌/◌, ◌<◌, ◌≤◌, List}
use Rattle.std.specs.List.{AllPairs, Contains}
use Rattle.cs_num.specs.declared.Sample.{Sample}
use Rattle.lte_types.specs.Identity.{cell_of}
use Rattle.sss_detect.specs.Place.{start_by_hit}
use Rattle.accumulated_pss.specs.Sums.{one, accumulated, row_of}
use Rattle.accumulated_pss.specs.Maxima.{IsCandidate, distance, precedes}
use Rattle.accumulated_sss.specs.declared.detecting.Detection.{Detection}
use Rattle.accumulated_sss.specs.Detection.{IsDetection}
use Rattle.accumulated_list.specs.declared.cell.DetectedCell.{DetectedCell}

-- ---- cells

-- the mean of ratios over `halves` half-frames, from their sum, in thousandths, rounded down
abbrev pub mean_ratio : ℕ → ℕ → ℕ
mean_ratio halves sum = 1000 * sum / (one * halves)

-- the cell of a detection at position `t` of the primary signal `n2`, where the ratios add up to `sum`
abbrev pub cell_with : ℕ → ℕ → ℕ → ℕ → Detection → DetectedCell
cell_with halves n2 t sum found = record {
  position = t;
  n2 = n2;
  id = cell_of found.n1 n2;
  half = found.half;
  start = start_by_hit t found.half;
  matches = found.matches;
  ratio = mean_ratio halves sum;
  power = found.power;
}

-- the cell of a detection at position `t` of the primary signal `n2` in a recording
abbrev pub cell_at : List Sample → ℕ → ℕ → ℕ → Detection → DetectedCell
cell_at recording halves n2 t found = cell_with halves n2 t (accumulated recording halves n2 t) found

-- `cell` is detected in the first `halves` half-frames: its position is a candidate for its primary signal, and the
-- other fields are those of the detection there
pub record IsDetected (recording : List Sample) (halves : ℕ) (cell : DetectedCell) : Type 0 where
  pub found : Detection
  pub member : cell.n2 ≤ 2
  pub candidate : IsCandidate (row_of recording halves cell.n2) cell.position
  pub detection : IsDetection recording halves cell.position cell.n2 found
  pub fields : cell ≡ cell_at recording halves cell.n2 cell.position found

-- ---- the list

-- `cell` is an echo of `other`: they have one identity, their positions are at most 137 apart, and the position of
-- `other` precedes: it has the greater sum, or an equal sum and is earlier
pub record IsEcho (recording : List Sample) (halves : ℕ) (other cell : DetectedCell) : Type 0 where
  pub identity : other.id ≡ cell.id
  pub near : distance other.position cell.position ≤ 137
  pub precedes : precedes (row_of recording halves cell.n2) other.position cell.position ≡ true

-- `cell` is listed: it is detected, and is not an echo of a detected cell
pub record IsListed (recording : List Sample) (halves : ℕ) (cell : DetectedCell) : Type 0 where
  pub detected : IsDetected recording halves cell
  pub no_echo : (other : DetectedCell) → IsDetected recording halves other → IsEcho recording halves other cell → ⊥

-- cell `a` is listed before cell `b`: by position, then by primary signal
abbrev pub IsBefore : DetectedCell → DetectedCell → Type 0
IsBefore a b = (a.position < b.position) ⊎ ((a.position ≡ b.position) × (a.n2 < b.n2))

-- `cells` is the list over the first `halves` half-frames: it has exactly the cells that are listed, in order
pub record IsList (recording : List Sample) (halves : ℕ) (cells : List DetectedCell) : Type 0 where
  pub listed : (cell : DetectedCell) → Contains cells cell ↔ IsListed recording halves cell
  pub order : AllPairs IsBefore cells
