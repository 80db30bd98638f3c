use Rattle.std.proofs.Common.{◌≡◌}
use Rattle.finite.specs.Lists.{values_below}
use Rattle.grid_map.specs.Control.{quadruplet_at}
use Rattle.wide_grid.proofs.pdcch.quadruplets.Given as goal

abbrev pub invariant-loop-r : goal.invariant-loop-r
invariant-loop-r l = l.order.items ≡ values_below l.r (quadruplet_at l.cell.identity l.count)
