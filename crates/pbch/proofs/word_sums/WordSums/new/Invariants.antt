use Rattle.std.proofs.Common.{◌≡◌, ℕ, ◌<◌, [], length, slice_index_or}
use Rattle.pbch.proofs.word_sums.WordSums.new.Given as goal

abbrev pub invariant-loop-k : goal.invariant-loop-k
invariant-loop-k l = record {
  whole : length l.kept ≡ 40;
  each : (j : ℕ) → j < l.k → slice_index_or l.kept j [] ≡ slice_index_or l.rows j [];
}
