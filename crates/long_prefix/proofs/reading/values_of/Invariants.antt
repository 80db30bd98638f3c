use Rattle.std.proofs.Common.{◌≡◌, ℕ, ◌*◌, ◌/◌, ◌%◌, ◌<◌, length, slice_index_or, pos}
use Rattle.grid_map.specs.Place.{place}
use Rattle.soft_bits.specs.Kept.{slot_of}
use Rattle.long_prefix.specs.Entries.{long_pair}
use Rattle.long_prefix.proofs.reading.values_of.Given as goal

abbrev pub invariant-loop-i : goal.invariant-loop-i
invariant-loop-i l = record {
  whole : length l.values ≡ 432;
  each : (k : ℕ) → k < 2 * l.i → slice_index_or l.values k (pos 0) ≡ slice_index_or (long_pair (slot_of l.seen) (slice_index_or l.places (k / 2) (place 0 0))) (k % 2) (pos 0);
}
