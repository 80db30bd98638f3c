use Rattle.std.proofs.Common.{◌∙◌, ap, [], ◌∷◌, ◌++◌}
use Rattle.std.specs.List.{flat_map}
use Rattle.serde_json.specs.Written.{compact_text}
use Rattle.report_json.specs.Values.{after_comma}
use Rattle.report_json.proofs.ItemTexts.{list_text_is}
use Rattle.report_json.proofs.values.some_text.Goals as goal

pub returns : goal.returns
returns g c whole =
    let value = g.T.ToJson.json_of in
    let one = c.in_ok-add_text.ensures whole ∙ ap (λ l. l ++ compact_text (value c.args.first.now)) c.in_ok-text.ensures.ok in
    let all = c.in_ok-add_rest.ensures whole ∙ ap (λ l. l ++ flat_map (after_comma value) c.args.rest.now) one in
    list_text_is value c.args.first.now c.args.rest.now _ (c.in_ok-push_str.ensures.bytes ∙ ap (λ l. l ++ (93 ∷ [])) all)
