use Rattle.std.proofs.Common.{◌≡◌, ℕ, ◌<◌, length, pos, slice_index_or}
use Rattle.std.specs.Int.{int_signum}
use Rattle.finite.specs.Sizes.{AllWithin}
use Rattle.accumulated_sss.specs.Steps.{number_at}
use Rattle.accumulated_sss.proofs.matching.signs.Given as goal

abbrev pub invariant-loop-n : goal.invariant-loop-n
invariant-loop-n l = record {
  whole : length l.out ≡ 62;
  each : (k : ℕ) → k < l.n → slice_index_or l.out k (pos 0) ≡ int_signum (number_at l.sums k);
  small : AllWithin 1 l.out;
}
