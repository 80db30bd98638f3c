use Rattle.cs_num.specs.Complex.{sample_at}
use Rattle.cs_num.proofs.SoFar.{SoFar}
use Rattle.frequency_offset.proofs.centred.sum_of.Given as goal

abbrev pub invariant-loop-i : goal.invariant-loop-i
invariant-loop-i l = SoFar 32768 l.i (sample_at l.samples) l.sum
