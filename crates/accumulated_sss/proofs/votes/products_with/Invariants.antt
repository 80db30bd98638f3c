use Rattle.std.proofs.Common.{◌≡◌, ℕ, ◌<◌, ◌^◌, length, pos, slice_index_or}
use Rattle.finite.specs.Sizes.{AllWithin}
use Rattle.cs_num.specs.Complex.{value_at}
use Rattle.sync_seq.specs.Middle.{middle}
use Rattle.accumulated_sss.specs.Steps.{product_of}
use Rattle.accumulated_sss.proofs.votes.products_with.Given as goal

abbrev pub invariant-loop-n : goal.invariant-loop-n
invariant-loop-n l = record {
  whole : length l.out ≡ 62;
  each : (k : ℕ) → k < l.n → slice_index_or l.out k (pos 0) ≡ product_of (value_at l.seen (middle k)) l.z;
  small : AllWithin (2 ^ 57) l.out;
}
