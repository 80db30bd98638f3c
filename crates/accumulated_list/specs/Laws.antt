-- Laws of the list of cells that are detected over many half-frames. (own)
use Rattle.std.specs.Prelude.{◌≡◌, ◌≢◌, ℕ, ◌<◌, ◌≤◌, List, length}
use Rattle.cs_num.specs.declared.Sample.{Sample}
use Rattle.sample_file.specs.Recording.{AgreeBefore}
use Rattle.accumulated_pss.specs.Sums.{covered, row_of}
use Rattle.accumulated_pss.specs.Maxima.{IsMaximum, distance}
use Rattle.accumulated_list.specs.declared.cell.DetectedCell.{DetectedCell}
use Rattle.accumulated_list.specs.Cells.{IsListed, IsList}

-- there is only one list
abbrev pub OnlyOneList : Type 0
OnlyOneList = (recording : List Sample) (halves : ℕ) (first second : List DetectedCell) →
    IsList recording halves first → IsList recording halves second → first ≡ second

-- the samples that the half-frames cover decide the list
abbrev pub CoveredSamplesDecide : Type 0
CoveredSamplesDecide = (halves : ℕ) (first second : List Sample) → AgreeBefore (covered halves) first second →
    (cells : List DetectedCell) → IsList first halves cells → IsList second halves cells

-- two listed cells with one identity are more than 137 positions apart
abbrev pub CellsAreApart : Type 0
CellsAreApart = (recording : List Sample) (halves : ℕ) (a b : DetectedCell) →
    IsListed recording halves a → IsListed recording halves b → a.id ≡ b.id → a ≢ b → 137 < distance a.position b.position

-- at least 93 of 124 signs match those of a listed cell, its mean ratio is at most 999 thousandths, and its position is
-- a maximum
abbrev pub CellsAreSupported : Type 0
CellsAreSupported = (recording : List Sample) (halves : ℕ) (cell : DetectedCell) → IsListed recording halves cell →
    (93 ≤ cell.matches) × (cell.ratio ≤ 999) × IsMaximum (row_of recording halves cell.n2) cell.position

-- the list has at most 192 cells, 64 for each primary signal
abbrev pub ListIsShort : Type 0
ListIsShort = (recording : List Sample) (halves : ℕ) (cells : List DetectedCell) →
    IsList recording halves cells → length cells ≤ 192
