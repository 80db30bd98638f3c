use Rattle.frequency_offset.specs.Fine.{symbol_sum}
use Rattle.cs_num.proofs.SoFar.{SoFar}
use Rattle.frequency_offset.proofs.fine.slot_sum.Given as goal

abbrev pub invariant-loop-symbol : goal.invariant-loop-symbol
invariant-loop-symbol l = SoFar 19327352832 l.symbol (symbol_sum l.turned l.start l.slot) l.sum
