use Rattle.std.proofs.Common.{◌≡◌, ℕ, ◌<◌, ◌^◌, length, pos, slice_index_or}
use Rattle.finite.specs.Sizes.{AllWithin}
use Rattle.accumulated_sss.specs.Votes.{vote_of}
use Rattle.accumulated_sss.specs.Steps.{number_at}
use Rattle.accumulated_sss.proofs.votes.votes_for.Given as goal

abbrev pub invariant-loop-n : goal.invariant-loop-n
invariant-loop-n l = record {
  whole : length l.out ≡ 62;
  each : (k : ℕ) → k < l.n → slice_index_or l.out k (pos 0) ≡ vote_of l.fn.energy (number_at l.products k);
  small : AllWithin (2 ^ 57) l.out;
}
