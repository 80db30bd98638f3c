use Rattle.tailbite.proofs.Walking.{walk_more}
use Rattle.tailbite.proofs.passes.walk.Goals as goal

pub loop-k-preserved : goal.loop-k-preserved
loop-k-preserved c = rw (c.next-state.ensures.next, c.bit_from-bit.ensures) (walk_more _ _ _ _ _ _ c.loop-k-test.true c.loop-k.invariant)
