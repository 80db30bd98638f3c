-- The text for a refused cell description. (own)
use Rattle.std.specs.Prelude.{ℕ, List, ◌++◌, codes}
use Rattle.cell_plan.specs.declared.error.CellError.{CellError}
use Rattle.cell_plan.specs.declared.error.CellError.TheVariants.{Form, Sfn, Offset, Samples, Gain, Sib1Range, Identity}
use Rattle.cell_plan.specs.declared.error.CellError.TheVariants.{Spare, Cfi, Assignment, Mcs, Punctured, Duplex}
use Rattle.cell_plan.specs.declared.error.CellError.TheVariants.{Extension, Sib1Long}

-- the name of a condition, in lower case
abbrev pub condition_word : CellError → List ℕ
condition_word Form = codes "form"
condition_word Sfn = codes "sfn"
condition_word Offset = codes "offset"
condition_word Samples = codes "samples"
condition_word Gain = codes "gain"
condition_word Sib1Range = codes "sib1range"
condition_word Identity = codes "identity"
condition_word Spare = codes "spare"
condition_word Cfi = codes "cfi"
condition_word Assignment = codes "assignment"
condition_word Mcs = codes "mcs"
condition_word Punctured = codes "punctured"
condition_word Duplex = codes "duplex"
condition_word Extension = codes "extension"
condition_word Sib1Long = codes "sib1long"

-- the text for a cell description that fails the condition `cause`
abbrev pub refusal_text : CellError → List ℕ
refusal_text cause = codes "bad cell: " ++ condition_word cause
