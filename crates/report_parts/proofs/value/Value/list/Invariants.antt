use Rattle.std.proofs.Common.{◌≡◌, map, false}
use Rattle.serde_json.specs.View.{view, items_of}
use Rattle.serde_json.specs.Written.{items_have_float}
use Rattle.report_parts.proofs.value.Value.list.Given as goal

abbrev pub invariant-loop-item : goal.invariant-loop-item
invariant-loop-item l =
    (map view l.list.items ≡ map (λ item. view item.json) l.yielded) × (items_have_float (items_of (map view l.list.items)) ≡ false)
