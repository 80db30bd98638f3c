use Rattle.std.proofs.Common.{◌≡◌, ℕ, ◌<◌, length, slice_index_or}
use Rattle.grid_map.specs.Place.{place}
use Rattle.grid_map.specs.Shared.{shared_place_of}
use Rattle.pdsch.proofs.block.fill_places.Given as goal

abbrev pub invariant-loop-i : goal.invariant-loop-i
invariant-loop-i l = record {
  size : length l.places ≡ 612;
  each : (k : ℕ) → k < l.i → slice_index_or l.places k (place 0 0) ≡ shared_place_of l.carrier l.fn.id l.assignment.cfi l.assignment.start l.assignment.blocks k;
}
