use Rattle.std.proofs.Common.{◌≡◌, ℕ, ◌<◌, [], length, slice_index_or}
use Rattle.finite.specs.Sizes.{RowsWithin}
use Rattle.pbch.proofs.word_sums.WordSums.rows.Given as goal

abbrev pub invariant-loop-k : goal.invariant-loop-k
invariant-loop-k l = record {
  whole : length l.rows ≡ 40;
  each : (j : ℕ) → j < l.k → slice_index_or l.rows j [] ≡ slice_index_or l.self-inside.rows j [];
  small : RowsWithin 2032 l.rows;
}
