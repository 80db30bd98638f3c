use Rattle.std.proofs.Common.{◌≡◌, ℕ, ◌<◌, [], length, slice_index_or}
use Rattle.finite.specs.Lists.{values_below}
use Rattle.added_master.specs.Sums.{added_row}
use Rattle.added_master.proofs.sums.plus.Given as goal

abbrev pub invariant-loop-k : goal.invariant-loop-k
invariant-loop-k l = record {
  whole : length l.out ≡ 40;
  each : (j : ℕ) → j < l.k → slice_index_or l.out j [] ≡
      values_below 3 (added_row (slice_index_or l.sums j []) (slice_index_or l.values j []) (slice_index_or l.coded j []));
}
