use Rattle.std.proofs.Common.{◌≡◌, ℕ, ◌<◌, length, pos, slice_index_or}
use Rattle.sync_seq.specs.Secondary.{sss_at}
use Rattle.sync_seq.proofs.secondary.sss.Given as goal

abbrev pub invariant-loop-k : goal.invariant-loop-k
invariant-loop-k l = record {
  whole : length l.values ≡ 62;
  each : (k : ℕ) → k < l.k → slice_index_or l.values k (pos 0) ≡ sss_at l.fn.n1 l.fn.n2 l.fn.half k;
}
