use Rattle.std.proofs.Common.{◌≡◌, ℕ, ◌<◌, length, pos, ◌+ℤ◌, slice_index_or}
use Rattle.accumulated_sss.specs.Steps.{number_at}
use Rattle.accumulated_sss.proofs.rows.added.Given as goal

abbrev pub invariant-loop-n : goal.invariant-loop-n
invariant-loop-n l = record {
  whole : length l.out ≡ 62;
  each : (k : ℕ) → k < l.n → slice_index_or l.out k (pos 0) ≡ number_at l.sums k +ℤ number_at l.values k;
}
