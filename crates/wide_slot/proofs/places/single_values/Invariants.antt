use Rattle.std.proofs.Common.{◌≡◌}
use Rattle.finite.specs.Lists.{joined_below}
use Rattle.wide_slot.specs.Values.{single_at}
use Rattle.wide_slot.proofs.places.single_values.Given as goal

abbrev pub invariant-loop-i : goal.invariant-loop-i
invariant-loop-i l = l.values.items ≡ joined_below l.i (single_at l.first l.second l.places)
