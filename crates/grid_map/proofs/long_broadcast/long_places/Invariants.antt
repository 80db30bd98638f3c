use Rattle.std.proofs.Common.{◌≡◌, ℕ, ◌<◌, length, slice_index_or}
use Rattle.std.specs.Prelude.{All}
use Rattle.grid_map.specs.Place.{place}
use Rattle.grid_map.specs.LongBroadcast.{long_places}
use Rattle.grid_map.proofs.long_broadcast.long_places.Given as goal

abbrev pub invariant-loop-i : goal.invariant-loop-i
invariant-loop-i l = record {
  whole : length l.places ≡ 216;
  each : (k : ℕ) → k < l.i → slice_index_or l.places k (place 0 0) ≡ slice_index_or (long_places l.id) k (place 0 0);
  inside : All (λ p. (p.symbol < 4) × (p.k < 72)) l.places;
}
