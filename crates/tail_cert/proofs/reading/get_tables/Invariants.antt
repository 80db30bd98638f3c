use Rattle.tail_cert.proofs.Shown.{AreReadTo}
use Rattle.tail_cert.proofs.reading.get_tables.Given as goal

abbrev pub invariant-loop-s : goal.invariant-loop-s
invariant-loop-s l = AreReadTo l.set l.tables l.at l.place l.bytes l.s
