use Rattle.std.proofs.Common.{◌≡◌}
use Rattle.finite.specs.Lists.{values_below}
use Rattle.halving.specs.Halved.{halved_at}
use Rattle.halving.proofs.filter.halve.Given as goal

abbrev pub invariant-loop-i : goal.invariant-loop-i
invariant-loop-i l = l.half.items ≡ values_below l.i (halved_at l.samples)
