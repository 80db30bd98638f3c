use Rattle.std.proofs.Common.{◌≡◌, ◌++◌, map}
use Rattle.std.specs.Iterator.Adapters.{zip_first, zip_second}
use Rattle.std.specs.Slice.Iter.{iter_rest}
use Rattle.serde_json.specs.View.{view}
use Rattle.lte_types.specs.Carrier.{carriers}
use Rattle.report_json.specs.All.{ruled_values}
use Rattle.report_parts.proofs.Zipped.{put_for}
use Rattle.report_json.proofs.all.value_of_all.Given as goal

abbrev pub invariant-loop-carrier : goal.invariant-loop-carrier
invariant-loop-carrier l =
    map view l.values.items ++ put_for ruled_values (iter_rest (zip_first l.carrier-iterator)) (iter_rest (zip_second l.carrier-iterator)) ≡ put_for ruled_values carriers l.lists
