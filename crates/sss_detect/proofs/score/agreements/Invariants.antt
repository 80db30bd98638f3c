use Rattle.std.proofs.Common.{◌≡◌, ℕ, ◌<◌, ◌≤◌, length, pos, slice_index_or}
use Rattle.finite.specs.Sizes.{AllWithin}
use Rattle.cs_num.specs.Complex.{value_at}
use Rattle.sss_detect.specs.Scores.{agreement}
use Rattle.sss_detect.proofs.score.agreements.Given as goal

abbrev pub invariant-loop-n : goal.invariant-loop-n
invariant-loop-n l = record {
  whole : length l.out ≡ 62;
  each : (k : ℕ) → k < l.n → slice_index_or l.out k (pos 0) ≡ agreement (value_at l.primary) (value_at l.secondary) l.fn.n2 k;
  small : AllWithin 576460752303423488 l.out;
}
