use Rattle.std.proofs.Common.{◌≡◌, ℕ, ◌<◌, length, pos, slice_index_or}
use Rattle.sss_detect.specs.Steps.{odd_sum}
use Rattle.sss_detect.proofs.score.odd_sums.Given as goal

abbrev pub invariant-loop-i : goal.invariant-loop-i
invariant-loop-i l = record {
  whole : length l.sums ≡ 248;
  each : (k : ℕ) → k < l.i → slice_index_or l.sums k (pos 0) ≡ odd_sum l.agreements l.fn.n2 k;
}
