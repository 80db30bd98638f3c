use Rattle.std.proofs.Common.{◌≡◌, ◌∙◌, ℕ, List, [], ◌∷◌, ap, ap₂, string_bytes}
use Rattle.std.specs.Prelude.{codes}
use Rattle.std.proofs.lemmas.Result.{IfOk-weaker}
use Rattle.serde_json.specs.Data.{Data, string, array}
use Rattle.serde_json.specs.View.{items_of}
use Rattle.report_parts.specs.Fields.{NamedData, natural, json_of_fields}
use Rattle.reason_report.specs.Json.{reasons_json}
use Rattle.reason_report.proofs.json.json_of_reasons.Goals as goal

pub returns : goal.returns
unfolding reasons_json
returns c =
    let identity = c.natural.ensures ∙ ap (λ (n : ℕ). (codes "identity", natural n)) c.value.ensures.value in
    let list = c.in_ok-word.ensures ∙ ap (λ (word : List ℕ). (codes "list", string word)) c.rule_word.ensures in
    let reasons = c.new.ensures ∙ ap (λ (d : Data). (codes "reasons", d)) (c.in_ok-list.ensures ∙ ap (λ (ds : List Data). array (items_of ds)) c.in_ok-objects_of.ensures) in
    let same = ap₂ (λ (a : NamedData) (rest : List NamedData). a ∷ rest) identity (ap₂ (λ (b d : NamedData). b ∷ d ∷ []) list reasons) in
    IfOk-weaker c.json_of_fields.result _ (λ text. string_bytes text ≡ reasons_json c.args.id c.args.carrier c.args.reasons.now)
    (λ text is. is ∙ ap json_of_fields same) c.json_of_fields.ensures
