use Rattle.std.proofs.Common.{◌≡◌}
use Rattle.tail_cert.proofs.Tables.{HoldsTo, from_row}
use Rattle.tail_cert.proofs.checker.steps_hold.Given as goal

abbrev pub invariant-loop-i : goal.invariant-loop-i
invariant-loop-i l = (l.from ≡ from_row l.first l.table l.i) × HoldsTo l.costs.steps.now l.first l.table l.i
