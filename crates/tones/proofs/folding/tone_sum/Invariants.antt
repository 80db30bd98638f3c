use Rattle.std.proofs.Common.{◌≡◌, ◌*◌, ◌%◌, ◌^◌}
use Rattle.cs_num.proofs.SoFar.{SoFar}
use Rattle.tones.specs.Folding.{folded_term}
use Rattle.tones.proofs.folding.tone_sum.Given as goal

abbrev pub invariant-loop-m : goal.invariant-loop-m
invariant-loop-m l = record {
  sum : SoFar (2 ^ 36) l.m (folded_term l.row l.step) l.sum;
  at : l.at ≡ l.step * l.m % 2048;
}
