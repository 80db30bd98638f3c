-- The fields of a cell that is detected over many half-frames, for its line and its JSON object. (own)
use Rattle.std.specs.Prelude.{List, [], ◌∷◌, codes}
use Rattle.lte_types.specs.Numerology.{subframe_of}
use Rattle.accumulated_list.specs.declared.cell.DetectedCell.{DetectedCell}
use Rattle.report_parts.specs.Fields.{NamedData, natural}

-- the position of the primary signal, the cell identity, the subframe (0 or 5) and the frame start; then how many signs
-- match, the mean ratio in thousandths, and the power. The subframe is the first one in half-frames of even number
abbrev pub cell_fields : DetectedCell → List NamedData
cell_fields cell =
    (codes "t", natural cell.position) ∷
    (codes "identity", natural cell.id) ∷
    (codes "subframe", natural (subframe_of cell.half)) ∷
    (codes "at", natural cell.start) ∷
    (codes "matches", natural cell.matches) ∷
    (codes "ratio", natural cell.ratio) ∷
    (codes "power", natural cell.power) ∷ []
