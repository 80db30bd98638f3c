-- The JSON of cells that are detected over many half-frames: one object, without spaces, whose keys are in byte order.
-- (own)
use Rattle.std.specs.Prelude.{ℕ, List, [], ◌∷◌, codes}
use Rattle.serde_json.specs.Data.{Data}
use Rattle.accumulated_list.specs.declared.cell.DetectedCell.{DetectedCell}
use Rattle.report_parts.specs.Fields.{NamedData, natural, list_of, object_of, json_of_fields}
use Rattle.accumulated_report.specs.Fields.{cell_fields}

-- the object for a cell
abbrev pub cell_value : DetectedCell → Data
cell_value cell = object_of (cell_fields cell)

-- the cells, and the number of half-frames
abbrev pub list_fields : ℕ → List DetectedCell → List NamedData
list_fields halves cells =
    (codes "cells", list_of cell_value cells) ∷
    (codes "half_frames", natural halves) ∷ []

-- the JSON of cells that are detected over `halves` half-frames
unfoldable pub accumulated_json : ℕ → List DetectedCell → List ℕ
accumulated_json halves cells = json_of_fields (list_fields halves cells)
