use Rattle.std.proofs.Common.{◌≡◌, Option, Some, None, sym}
use Rattle.std.specs.Prelude.{IfSome}
use Rattle.serde_json.specs.Data.{Data}
use Rattle.lte_types.specs.declared.sib1.Sib1.{Sib1}
use Rattle.lte_types.specs.Ranges.{IsValid}
use Rattle.cell_json.specs.Information.{sib1_in}
use Rattle.cell_json.proofs.Valid.{read_is_valid}
use Rattle.cell_json.proofs.reading.information_of.Goals as goal

valid_if_some : (json : Data) (read : Option Sib1) → read ≡ sib1_in json → IfSome read IsValid
valid_if_some json None is = tt
valid_if_some json (Some sib1) is = read_is_valid json sib1 (sym is)

pub returns-clause-valid : goal.returns-clause-valid
returns-clause-valid c = valid_if_some _ _ c.sib1_in.ensures
