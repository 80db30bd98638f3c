use Rattle.std.proofs.Common.{◌≡◌, ℕ, ◌<◌, length, pos, slice_index_or}
use Rattle.sss_detect.specs.Steps.{even_sum}
use Rattle.sss_detect.proofs.score.even_sums.Given as goal

abbrev pub invariant-loop-shift : goal.invariant-loop-shift
invariant-loop-shift l = record {
  whole : length l.sums ≡ 31;
  each : (k : ℕ) → k < l.shift → slice_index_or l.sums k (pos 0) ≡ even_sum l.agreements l.fn.n2 k;
}
