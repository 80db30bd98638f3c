use Rattle.std.proofs.Common.{◌≡◌, ◌++◌}
use Rattle.finite.specs.Lists.{values_below}
use Rattle.wide_grid.specs.Control.{phich_group as phich_group_of}
use Rattle.wide_grid.proofs.phich.add_phich_groups.Given as goal

abbrev pub invariant-loop-i : goal.invariant-loop-i
invariant-loop-i l = l.groups.items ≡ l.fn.groups.items ++ values_below l.i (phich_group_of l.cell l.m)
