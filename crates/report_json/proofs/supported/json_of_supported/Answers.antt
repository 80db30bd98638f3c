use Rattle.std.proofs.Common.{◌∙◌, ap, map}
use Rattle.std.proofs.lemmas.Result.{IfOk-weaker}
use Rattle.serde_json.specs.Data.{array}
use Rattle.serde_json.specs.View.{items_of}
use Rattle.serde_json.specs.Written.{compact_text}
use Rattle.report_json.specs.Supported.{cell_value, supported_json}
use Rattle.report_json.proofs.Floats.{in_cell}
use Rattle.report_json.proofs.supported.json_of_supported.Goals as goal

pub returns : goal.returns
unfolding supported_json
returns c of are =
    let same = ap (λ values. compact_text (array (items_of values))) (ap (map cell_value) c.deref.ensures.value ∙ c.in_ok-cells.ensures of are) in
    IfOk-weaker c.list_text.result _ _ (λ text is. is ∙ same) (c.list_text.ensures in_cell)
