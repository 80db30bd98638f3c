use Rattle.std.proofs.Common.{◌≡◌, ℕ, ◌<◌, All, length}
use Rattle.cs_num.specs.Complex.{IsWithin, value_at}
use Rattle.cs_num.specs.Rounding.{rounded}
use Rattle.observe.proofs.round_all.Given as goal

abbrev pub invariant-loop-k : goal.invariant-loop-k
invariant-loop-k l = record {
  whole : length l.out ≡ 72;
  each : (k : ℕ) → k < l.k → value_at l.out k ≡ rounded (value_at l.sums k) 12;
  small : All (IsWithin 23726080) l.out;
}
