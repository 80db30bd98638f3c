use Rattle.std.proofs.Common.{◌≡◌, ◌++◌, take, map}
use Rattle.serde_json.specs.View.{view}
use Rattle.report_json.specs.All.{ruled_values}
use Rattle.report_json.proofs.all.add_ruled.Given as goal

abbrev pub invariant-loop-entry : goal.invariant-loop-entry
invariant-loop-entry l = map view l.list.items ≡ map view l.fn.list.items ++ ruled_values l.rule (take l.entry-index l.entries)
