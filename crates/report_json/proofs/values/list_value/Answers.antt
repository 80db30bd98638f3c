use Rattle.std.proofs.Common.{◌∙◌, arith, ap, map, take_all}
use Rattle.serde_json.specs.Data.{array}
use Rattle.serde_json.specs.View.{items_of}
use Rattle.report_json.proofs.values.list_value.Goals as goal

pub returns : goal.returns
returns g c = c.from.ensures ∙ ap (λ list. array (items_of list))
    (c.loop-item.invariant ∙ ap (map g.T.ToJson.json_of) (take_all c.loop-item.item-index c.args.items.now (omega arith)))
