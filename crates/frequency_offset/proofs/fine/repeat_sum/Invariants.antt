use Rattle.frequency_offset.specs.Fine.{repeat_term}
use Rattle.cs_num.proofs.SoFar.{SoFar}
use Rattle.frequency_offset.proofs.fine.repeat_sum.Given as goal

abbrev pub invariant-loop-i : goal.invariant-loop-i
invariant-loop-i l = SoFar 2147483648 l.i (repeat_term l.turned l.u) l.sum
