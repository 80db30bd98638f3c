use Rattle.std.proofs.Common.{◌≡◌}
use Rattle.finite.specs.Lists.{values_below, joined_below}
use Rattle.wide_grid.specs.Control.{phich_group as phich_group_of}
use Rattle.wide_grid.proofs.phich.phich_groups.Given as goal

abbrev pub invariant-loop-m : goal.invariant-loop-m
invariant-loop-m l = l.groups.items ≡ joined_below l.m (λ m. values_below 3 (phich_group_of l.cell m))
