use Rattle.std.proofs.Common.{◌≡◌, ℕ, ◌<◌, length}
use Rattle.cs_num.specs.Complex.{value_at}
use Rattle.sync_seq.specs.Primary.{pss_at}
use Rattle.sync_seq.proofs.primary.pss.Given as goal

abbrev pub invariant-loop-n : goal.invariant-loop-n
invariant-loop-n l = record {
  whole : length l.values ≡ 62;
  each : (k : ℕ) → k < l.n → value_at l.values k ≡ pss_at l.fn.n2 k;
}
