use Rattle.accumulated_pss.specs.Steps.{AreRows}
use Rattle.accumulated_pss.proofs.sums.accumulate.Given as goal

abbrev pub invariant-loop-half : goal.invariant-loop-half
invariant-loop-half l = AreRows l.samples l.half 0 l.sums
