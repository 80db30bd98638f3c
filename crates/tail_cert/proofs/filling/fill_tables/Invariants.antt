use Rattle.tail_cert.proofs.Filled.{AreFilledTo}
use Rattle.tail_cert.proofs.filling.fill_tables.Given as goal

abbrev pub invariant-loop-s : goal.invariant-loop-s
invariant-loop-s l = AreFilledTo l.costs.values.now l.set l.tables l.s
