-- The cells of one primary signal in the form that the code computes.
use Rattle.std.specs.Prelude.{ℕ, ◌+◌, ◌*◌, List, ◌++◌, Option, option_map, Bool, not, nat_le, ◌==◌, ◌&&◌, filter}
use Rattle.std.specs.List.{filter_map, list_any}
use Rattle.cs_num.specs.declared.Sample.{Sample}
use Rattle.accumulated_pss.specs.Sums.{row_of}
use Rattle.accumulated_pss.specs.Maxima.{candidates, distance, precedes}
use Rattle.accumulated_sss.specs.Detection.{detection_at}
use Rattle.accumulated_list.specs.declared.cell.DetectedCell.{DetectedCell}
use Rattle.accumulated_list.specs.Cells.{cell_at}

-- the cell at position `t` of the primary signal `n2`, if there is a detection
unfoldable pub cell_found : List Sample → ℕ → ℕ → ℕ → Option DetectedCell
cell_found recording halves n2 t = option_map (cell_at recording halves n2 t) (detection_at recording halves t n2)

-- the cells that are detected at the candidates of the primary signal `n2`, in ascending order of position
unfoldable pub detected_cells : List Sample → ℕ → ℕ → List DetectedCell
detected_cells recording halves n2 = filter_map (cell_found recording halves n2) (candidates (row_of recording halves n2))

-- whether `cell` is an echo of `other`, by the sums of a row
unfoldable pub is_echo : List ℕ → DetectedCell → DetectedCell → Bool
is_echo row other cell = (other.id == cell.id) &&
    (nat_le (distance other.position cell.position) 137 && precedes row other.position cell.position)

-- whether `cell` is an echo of none of `cells`
unfoldable pub is_no_echo : List ℕ → List DetectedCell → DetectedCell → Bool
is_no_echo row cells cell = not (list_any (λ other. is_echo row other cell) cells)

-- the cells of a list that are not an echo of another one there
unfoldable pub without_echoes : List ℕ → List DetectedCell → List DetectedCell
without_echoes row cells = filter (is_no_echo row cells) cells

-- the listed cells of the primary signal `n2`
abbrev pub listed_cells : List Sample → ℕ → ℕ → List DetectedCell
listed_cells recording halves n2 = without_echoes (row_of recording halves n2) (detected_cells recording halves n2)

-- the listed cells of all three primary signals, by primary signal
abbrev pub all_listed : List Sample → ℕ → List DetectedCell
all_listed recording halves =
    listed_cells recording halves 0 ++ (listed_cells recording halves 1 ++ listed_cells recording halves 2)

-- a number that orders cells by position, then by primary signal
abbrev pub order_of : DetectedCell → ℕ
order_of cell = 3 * cell.position + cell.n2
