use Rattle.frequency_offset.specs.Fine.{half_start, slot_sum}
use Rattle.cs_num.proofs.SoFar.{SoFar}
use Rattle.frequency_offset.proofs.fine.prefix_sum.Given as goal

abbrev pub invariant-loop-slot : goal.invariant-loop-slot
invariant-loop-slot l = SoFar 135291469824 l.slot (slot_sum l.turned (half_start l.t)) l.sum
