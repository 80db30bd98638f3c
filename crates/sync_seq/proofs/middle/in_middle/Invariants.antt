use Rattle.std.proofs.Common.{◌≡◌, ℕ, ◌<◌, length}
use Rattle.cs_num.specs.Complex.{value_at}
use Rattle.sync_seq.specs.Middle.{in_middle}
use Rattle.sync_seq.proofs.middle.in_middle.Given as goal

abbrev pub invariant-loop-k : goal.invariant-loop-k
invariant-loop-k l = record {
  whole : length l.grid ≡ 72;
  each : (j : ℕ) → j < l.k → value_at l.grid j ≡ in_middle (value_at l.values) j;
}
