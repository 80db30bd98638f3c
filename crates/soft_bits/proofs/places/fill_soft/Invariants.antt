use Rattle.std.proofs.Common.{◌≡◌, ℕ, ◌*◌, ◌<◌, length, slice_index_or, pos}
use Rattle.soft_bits.specs.Places.{in_subframe, placed_value}
use Rattle.soft_bits.proofs.places.fill_soft.Given as goal

abbrev pub invariant-loop-i : goal.invariant-loop-i
invariant-loop-i g l = record {
  whole : length l.values ≡ 2 * length l.places;
  each : (k : ℕ) → k < 2 * l.i → slice_index_or l.values k (pos 0) ≡ placed_value (in_subframe l.first l.second) l.places k;
}
