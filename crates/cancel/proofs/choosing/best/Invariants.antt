use Rattle.cancel.specs.Steps.{greatest_of, IsFoundBefore}
use Rattle.cancel.proofs.choosing.best.Given as goal

abbrev pub invariant-loop-i : goal.invariant-loop-i
invariant-loop-i l = IsFoundBefore (greatest_of l.samples l.sent) l.middle l.limit l.i l.found
