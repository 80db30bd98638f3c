use Rattle.std.proofs.Common.{◌≡◌, ◌*◌, [], length, slice_index_or}
use Rattle.finite.specs.Lists.{joined_below}
use Rattle.conv_code.specs.Code.{coded_bits}
use Rattle.code_distance.specs.Room.{agreements}
use Rattle.code_distance.proofs.separation.agreements.Given as goal

abbrev pub invariant-loop-k : goal.invariant-loop-k
invariant-loop-k l = record {
  so_far : l.all.items ≡ joined_below l.k (λ k. agreements (slice_index_or l.values k []) (coded_bits l.word k));
  count : length l.all.items ≡ 3 * l.k;
}
