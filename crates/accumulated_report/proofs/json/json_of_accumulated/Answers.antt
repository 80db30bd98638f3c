use Rattle.std.proofs.Common.{◌≡◌, ◌∙◌, [], ◌∷◌, ap, ap₂, string_bytes}
use Rattle.std.specs.Prelude.{codes}
use Rattle.std.proofs.lemmas.Result.{IfOk-weaker}
use Rattle.serde_json.specs.Data.{Data}
use Rattle.report_parts.specs.Fields.{NamedData, json_of_fields}
use Rattle.accumulated_report.specs.Json.{accumulated_json}
use Rattle.accumulated_report.proofs.json.json_of_accumulated.Goals as goal

pub returns : goal.returns
unfolding accumulated_json
returns c =
    let same = ap₂ (λ (a b : NamedData). a ∷ b ∷ []) (c.new.ensures ∙ ap (λ (d : Data). (codes "cells", d)) c.in_ok-list.ensures) c.natural.ensures in
    IfOk-weaker c.json_of_fields.result _ (λ text. string_bytes text ≡ accumulated_json c.args.halves c.args.cells.now)
    (λ text is. is ∙ ap json_of_fields same) c.json_of_fields.ensures
