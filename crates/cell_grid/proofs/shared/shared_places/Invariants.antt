use Rattle.std.proofs.Common.{◌≡◌, ℕ, ◌<◌, length, get_or}
use Rattle.grid_map.specs.Place.{place}
use Rattle.grid_map.specs.Shared.{shared_place_of}
use Rattle.cell_grid.proofs.shared.shared_places.Given as goal

abbrev pub invariant-loop-i : goal.invariant-loop-i
invariant-loop-i l = record {
  whole : length l.places ≡ 612;
  each : (k : ℕ) → k < l.i → get_or l.places k (place 0 0) ≡ shared_place_of l.carrier l.fn.cell.identity l.fn.cell.cfi l.fn.cell.start l.fn.cell.blocks k;
}
