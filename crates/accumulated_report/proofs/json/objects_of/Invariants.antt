use Rattle.std.proofs.Common.{◌≡◌, take, map}
use Rattle.report_parts.specs.Values.{data_of}
use Rattle.accumulated_report.specs.Json.{cell_value}
use Rattle.accumulated_report.proofs.json.objects_of.Given as goal

abbrev pub invariant-loop-cell : goal.invariant-loop-cell
invariant-loop-cell l = map data_of l.objects.items ≡ map cell_value (take l.cell-index l.cells)
