use Rattle.std.proofs.Common.{◌≡◌, ◌++◌, take, string_bytes}
use Rattle.std.specs.List.{flat_map}
use Rattle.reason_report.specs.Text.{reason_line}
use Rattle.reason_report.proofs.text.add_lines.Given as goal

abbrev pub invariant-loop-reason : goal.invariant-loop-reason
invariant-loop-reason l = string_bytes l.text ≡ string_bytes l.fn.text ++ flat_map reason_line (take l.reason-index l.reasons)
