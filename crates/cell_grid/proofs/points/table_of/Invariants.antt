use Rattle.std.proofs.Common.{◌≡◌, ℕ, ◌/◌, ◌%◌, ◌<◌, length, get_or}
use Rattle.grid_map.specs.Place.{place}
use Rattle.cell_grid.proofs.PlaceValues.{IsFirstBefore}
use Rattle.cell_grid.proofs.points.table_of.Given as goal

abbrev pub invariant-loop-i : goal.invariant-loop-i
invariant-loop-i l = record {
  whole : length l.numbers ≡ 1008;
  each : (c : ℕ) → c < 1008 → IsFirstBefore l.places (place (c / 72) (c % 72)) l.i (get_or l.numbers c 0);
}
