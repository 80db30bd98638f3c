use Rattle.std.proofs.Common.{[], get_or}
use Rattle.tail_cert.proofs.Filled.{AreNeededTo}
use Rattle.tail_cert.proofs.filling.states_below.Given as goal

abbrev pub invariant-loop-s : goal.invariant-loop-s
invariant-loop-s l = AreNeededTo l.cost (get_or l.general 39 []) l.set l.s
