use Rattle.std.proofs.Common.{◌≡◌, ◌++◌, map}
use Rattle.std.specs.Iterator.Adapters.{zip_first, zip_second}
use Rattle.std.specs.Slice.Iter.{iter_rest}
use Rattle.lte_types.specs.Carrier.{carriers}
use Rattle.report_json.specs.Supported.{cell_value, supported_values}
use Rattle.report_parts.proofs.Zipped.{put_for}
use Rattle.report_json.proofs.supported.cells_of.Given as goal

abbrev pub invariant-loop-carrier : goal.invariant-loop-carrier
invariant-loop-carrier l =
    map cell_value l.cells.items ++ put_for supported_values (iter_rest (zip_first l.carrier-iterator)) (iter_rest (zip_second l.carrier-iterator)) ≡ put_for supported_values carriers l.lists
