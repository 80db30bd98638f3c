use Rattle.std.proofs.Common.{◌≡◌, length, ◌*◌}
use Rattle.finite.specs.Lists.{joined_below}
use Rattle.wide_grid.specs.Group.{group_places, AreInside}
use Rattle.wide_grid.specs.Control.{pcfich_group}
use Rattle.wide_grid.proofs.control.pcfich_places.Given as goal

abbrev pub invariant-loop-i : goal.invariant-loop-i
invariant-loop-i l = record {
  items : l.places.items ≡ joined_below l.i (λ i. group_places l.cell (pcfich_group l.cell i));
  inside : AreInside l.cell l.places.items;
  count : length l.places.items ≡ 4 * l.i;
}
