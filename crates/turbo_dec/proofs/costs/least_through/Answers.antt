use Rattle.std.proofs.Common.{refl}
use Rattle.trellis.proofs.Through.{via_more}
use Rattle.turbo_dec.proofs.costs.least_through.Goals as goal

pub loop-x-preserved : goal.loop-x-preserved
loop-x-preserved c = rw c.min-least.ensures (via_more _ _ _ _ _ _ _ _ c.loop-x.invariant (rw (c.edge-in-loop-x.ensures.cost, c.next-in-loop-x.ensures.next) refl))
