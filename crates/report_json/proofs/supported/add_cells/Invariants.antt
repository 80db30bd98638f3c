use Rattle.std.proofs.Common.{◌≡◌, ◌++◌, map}
use Rattle.std.specs.Iterator.Adapters.{zip_first, zip_second}
use Rattle.std.specs.Slice.Iter.{iter_rest}
use Rattle.report_json.specs.Supported.{cell_value}
use Rattle.report_parts.proofs.Zipped.{put_for}
use Rattle.report_json.proofs.SupportedCells.{one_cell}
use Rattle.report_json.proofs.supported.add_cells.Given as goal

abbrev pub invariant-loop-entry : goal.invariant-loop-entry
invariant-loop-entry l =
    map cell_value l.cells.items ++ put_for (one_cell l.rule) (iter_rest (zip_first l.entry-iterator)) (iter_rest (zip_second l.entry-iterator))
    ≡ map cell_value l.fn.cells.items ++ put_for (one_cell l.rule) l.list.entries l.list.shown
