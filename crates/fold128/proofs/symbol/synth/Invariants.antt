use Rattle.std.proofs.Common.{◌≡◌, ℕ, ◌*◌, ◌/◌, ◌%◌, ◌<◌, length, slice_index_or}
use Rattle.cs_num.specs.Complex.{value_at}
use Rattle.cs_num.specs.Sums.{complex_sum_below}
use Rattle.fold128.specs.Symbol.{useful_at, useful_term}
use Rattle.fold128.specs.Folding.{given_at, empty_quartet, AreWithin}
use Rattle.fold128.proofs.symbol.synth.Given as goal

abbrev pub invariant-loop-k : goal.invariant-loop-k
invariant-loop-k l = record {
  whole : length l.parts ≡ 32;
  each : (n : ℕ) → n < 128 → given_at (n / 32) (slice_index_or l.parts (n % 32) empty_quartet) ≡ complex_sum_below l.k (useful_term (value_at l.grid) n);
  small : (m : ℕ) → m < 32 → AreWithin (l.k * 4161536) (slice_index_or l.parts m empty_quartet);
}

abbrev pub invariant-loop-n : goal.invariant-loop-n
invariant-loop-n l = record {
  whole : length l.out ≡ 128;
  each : (k : ℕ) → k < l.n → value_at l.out k ≡ useful_at (value_at l.grid) k;
}
