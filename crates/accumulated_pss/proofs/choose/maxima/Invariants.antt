use Rattle.std.proofs.Common.{◌≡◌, ◌+◌, filter}
use Rattle.finite.specs.Lists.{values_below}
use Rattle.accumulated_pss.specs.Tests.{is_maximum}
use Rattle.accumulated_pss.proofs.choose.maxima.Given as goal

abbrev pub invariant-loop-i : goal.invariant-loop-i
invariant-loop-i l = l.list.items ≡ filter (is_maximum l.row) (values_below l.i (λ i. 137 + i))
