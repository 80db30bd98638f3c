use Rattle.std.proofs.Common.{◌≡◌, take, map}
use Rattle.report_parts.specs.Values.{data_of}
use Rattle.reason_report.specs.Json.{reason_value}
use Rattle.reason_report.proofs.json.objects_of.Given as goal

abbrev pub invariant-loop-reason : goal.invariant-loop-reason
invariant-loop-reason l = map data_of l.objects.items ≡ map reason_value (take l.reason-index l.reasons)
