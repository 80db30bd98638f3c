-- The text of cells that are detected over many half-frames. Numbers are decimal, and every line ends with a line
-- feed. (own)
use Rattle.std.specs.Prelude.{ℕ, List, ◌++◌, length, drop, codes}
use Rattle.std.specs.List.{flat_map}
use Rattle.std.specs.Fmt.{decimal}
use Rattle.lte_types.specs.Numerology.{subframe_of}
use Rattle.accumulated_list.specs.declared.cell.DetectedCell.{DetectedCell}
use Rattle.report_parts.specs.Fields.{line_of_fields}
use Rattle.accumulated_report.specs.Fields.{cell_fields}

-- the start of a line: a position of the primary signal, a cell identity, a subframe (0 or 5) and a frame start
abbrev pub place_part : ℕ → ℕ → ℕ → ℕ → List ℕ
place_part t id subframe start =
    decimal t ++ codes " " ++ decimal id ++ codes " " ++ decimal subframe ++ codes " " ++ decimal start

-- a cell's line: its first four fields without names, then the others with names
abbrev pub cell_line : DetectedCell → List ℕ
cell_line cell =
    line_of_fields (place_part cell.position cell.id (subframe_of cell.half) cell.start) (drop 4 (cell_fields cell))

-- the line with the number of cells and of half-frames
abbrev pub accumulated_head : ℕ → ℕ → List ℕ
accumulated_head count halves = codes "deep " ++ decimal count ++ codes " of " ++ decimal halves ++ codes "\n"

-- the text of cells that are detected over `halves` half-frames: the line with the numbers, then a line for each cell
unfoldable pub accumulated_text : ℕ → List DetectedCell → List ℕ
accumulated_text halves cells = accumulated_head (length cells) halves ++ flat_map cell_line cells
