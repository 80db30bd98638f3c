use Rattle.std.proofs.Common.{◌≡◌, ℕ, ◌<◌, length, slice_index_or}
use Rattle.std.specs.Prelude.{All}
use Rattle.grid_map.specs.Place.{place}
use Rattle.grid_map.specs.Candidate.{candidate_places}
use Rattle.grid_map.proofs.candidate.candidate_places.Given as goal

abbrev pub invariant-loop-i : goal.invariant-loop-i
invariant-loop-i l = record {
  whole : length l.places ≡ 144;
  each : (k : ℕ) → k < l.i → slice_index_or l.places k (place 0 0) ≡ slice_index_or (candidate_places l.id l.groups) k (place 0 0);
  inside : All (λ p. (p.symbol < 14) × (p.k < 72)) l.places;
}
