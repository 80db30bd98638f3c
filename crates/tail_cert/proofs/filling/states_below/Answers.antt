use Rattle.tail_cert.proofs.Filled.{needed_more, needed_none}
use Rattle.tail_cert.proofs.filling.states_below.Goals as goal

pub loop-s-init : goal.loop-s-init
loop-s-init c = needed_none _ _

pub loop-s-preserved : goal.loop-s-preserved
loop-s-preserved c = needed_more _ _ _ _ c.loop-s.invariant c.loop-s-test.true
