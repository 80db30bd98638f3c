use Rattle.std.proofs.Common.{◌≡◌, ◌∙◌, List, ap, sym, drop, get_or, ◌+◌, rules}
use Rattle.std.proofs.lemmas.List.{at_drop_more}
use Rattle.serde_json.specs.Data.{put}
use Rattle.serde_json.specs.View.{view, members_view}
use Rattle.report_parts.specs.declared.fields.Field.{Field}
use Rattle.report_parts.specs.Fields.{put_fields}
use Rattle.report_parts.specs.Values.{fields_of}
use Rattle.report_parts.proofs.NoFloat.{no_float_put}
use Rattle.report_parts.proofs.fields.put_fields.Goals as goal

pub loop-field-preserved : goal.loop-field-preserved
loop-field-preserved c =
    let field = c.field-item.result in
    let before = members_view c.loop-field.members.entries in
    let i = c.loop-field.field-index in
    let is_put = c.in_ok-put.ensures.ok in
    let same : put field.name.now (view c.in_ok-json.json) before ≡ put field.name.now (view field.value.json) before =
    ap (λ d. put field.name.now d before) c.in_ok-json.ensures.view in
    let same_field : get_or c.args.fields.now i field ≡ field = search rules in
    let rest = fields_of (drop (i + 1) c.args.fields.now) in
    let next = at_drop_more (λ (fields : List Field). put_fields (fields_of fields) before) c.args.fields.now i field c.loop-field-test.true in (
      ap (put_fields rest) (is_put ∙ same) ∙ sym (next ∙ ap (λ (f : Field). put_fields rest (put f.name.now (view f.value.json) before)) same_field) ∙ c.loop-field.invariant.0,
      λ whole. rw is_put (no_float_put field.name.now (view c.in_ok-json.json) before c.in_ok-json.ensures.no_float (c.loop-field.invariant.1 whole)),
    )
