-- The texts for descriptions that cannot be read. (own)
use Rattle.std.specs.Prelude.{ℕ, List, codes}
use Rattle.cell_plan.specs.Words.{refusal_text}
use Rattle.cell_json.specs.declared.error.JsonError.{JsonError}
use Rattle.cell_json.specs.declared.error.JsonError.TheVariants.{Cell, OutOfMemory}

abbrev pub error_text : JsonError → List ℕ
error_text (Cell cause) = refusal_text cause
error_text OutOfMemory = codes "out of memory"
