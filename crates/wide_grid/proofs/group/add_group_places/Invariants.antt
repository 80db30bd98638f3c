use Rattle.std.proofs.Common.{◌≡◌, ◌-◌, ◌++◌, not, map, filter}
use Rattle.std.specs.List.{range_with_len}
use Rattle.wide_cell.specs.Place.{place}
use Rattle.wide_grid.specs.Group.{is_reserved as is_reserved_by}
use Rattle.wide_grid.proofs.group.add_group_places.Given as goal

abbrev pub invariant-loop-k : goal.invariant-loop-k
invariant-loop-k l =
    l.places.items ≡ l.fn.places.items ++ filter (λ p. not (is_reserved_by l.cell p))
    (map (place l.group.symbol) (range_with_len l.group.first (l.k - l.group.first)))
