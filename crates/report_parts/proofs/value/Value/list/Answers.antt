use Rattle.std.proofs.Common.{◌≡◌, ◌∙◌, List, [], ◌∷◌, ◌++◌, ap, sym, map}
use Rattle.std.proofs.lemmas.List.{map-append}
use Rattle.serde_json.specs.Data.{Data}
use Rattle.serde_json.specs.View.{view, items_of}
use Rattle.serde_json.specs.Written.{items_have_float}
use Rattle.report_parts.specs.declared.value.Value.{Value}
use Rattle.report_parts.proofs.NoFloat.{no_float_push}
use Rattle.report_parts.proofs.value.Value.list.Goals as goal

pub loop-item-preserved : goal.loop-item-preserved
loop-item-preserved c =
    let item = c.in-Some.item in
    let pushed : map view c.push.new.self.items ≡ map view c.loop-item.list.items ++ view item.json ∷ [] =
    ap (map view) c.in_ok-push.ensures.items ∙ map-append view c.loop-item.list.items (item.json ∷ []) in (
      pushed ∙ ap (λ (l : List Data). l ++ view item.json ∷ []) c.loop-item.invariant.0 ∙ sym (map-append (λ (v : Value). view v.json) c.loop-item.yielded (item ∷ [])),
      ap (λ (l : List Data). items_have_float (items_of l)) pushed ∙ no_float_push (map view c.loop-item.list.items) (view item.json) c.loop-item.invariant.1 item.no_float,
    )
