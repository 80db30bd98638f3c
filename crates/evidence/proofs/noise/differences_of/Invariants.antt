use Rattle.std.proofs.Common.{◌≡◌, ◌*◌, ◌≤◌}
use Rattle.finite.specs.Sums.{total_below}
use Rattle.cs_num.specs.Complex.{value_at}
use Rattle.evidence.specs.Evidence.{difference_power}
use Rattle.evidence.proofs.noise.differences_of.Given as goal

abbrev pub invariant-loop-i : goal.invariant-loop-i
invariant-loop-i l = record {
  so_far : l.sum ≡ total_below l.i (difference_power l.stride (value_at l.pilots));
  small : l.sum ≤ l.i * 1180591620717411303424;
}
