use Rattle.std.proofs.Common.{◌≡◌}
use Rattle.finite.specs.Lists.{values_below}
use Rattle.wide_grid.specs.Control.{quadruplet_group as quadruplet_group_of}
use Rattle.wide_grid.proofs.pdcch.quadruplet_groups.Given as goal

abbrev pub invariant-loop-q : goal.invariant-loop-q
invariant-loop-q l = l.ordered.items ≡ values_below l.q (quadruplet_group_of l.cell l.groups)
