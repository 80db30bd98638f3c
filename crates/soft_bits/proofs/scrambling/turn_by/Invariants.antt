use Rattle.std.proofs.Common.{◌≡◌, ℕ, ◌+◌, ◌<◌, ◌≤◌, false, length, slice_index_or, pos, nat_abs}
use Rattle.std.specs.Prelude.{All}
use Rattle.soft_bits.specs.Places.{descrambled_value}
use Rattle.soft_bits.proofs.scrambling.turn_by.Given as goal

abbrev pub invariant-loop-i : goal.invariant-loop-i
invariant-loop-i l = record {
  whole : length l.values ≡ length l.fn.values;
  done : (k : ℕ) → k < l.i → slice_index_or l.values k (pos 0) ≡ descrambled_value (slice_index_or l.bits (l.first + k) false) (slice_index_or l.fn.values k (pos 0));
  left : (k : ℕ) → l.i ≤ k → slice_index_or l.values k (pos 0) ≡ slice_index_or l.fn.values k (pos 0);
  small : All (λ value. nat_abs value ≤ 127) l.values;
}
