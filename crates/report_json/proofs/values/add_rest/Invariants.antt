use Rattle.std.proofs.Common.{◌≡◌, ◌++◌, take, string_bytes}
use Rattle.std.specs.List.{flat_map}
use Rattle.report_json.specs.Values.{HasNoFloat, after_comma}
use Rattle.report_json.proofs.values.add_rest.Given as goal

abbrev pub invariant-loop-item : goal.invariant-loop-item
invariant-loop-item g l =
    HasNoFloat g.T.ToJson.json_of → string_bytes l.text ≡ string_bytes l.fn.text ++ flat_map (after_comma g.T.ToJson.json_of) (take l.item-index l.items)
