use Rattle.std.proofs.Common.{◌≡◌, length, ◌+◌, ◌*◌, slice_index_or}
use Rattle.finite.specs.Lists.{joined_below}
use Rattle.wide_grid.specs.Group.{group, group_places, AreInside}
use Rattle.wide_grid.proofs.candidate.candidate_places.Given as goal

abbrev pub invariant-loop-j : goal.invariant-loop-j
invariant-loop-j l = record {
  items : l.places.items ≡ joined_below l.j (λ j. group_places l.cell (slice_index_or l.groups (9 * l.candidate.first + j) (group 0 0)));
  inside : AreInside l.cell l.places.items;
  count : length l.places.items ≡ 4 * l.j;
}
