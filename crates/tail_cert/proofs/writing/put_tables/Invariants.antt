use Rattle.tail_cert.specs.Stored.{shown_at}
use Rattle.tail_cert.proofs.Pieces.{AreWrittenTo}
use Rattle.tail_cert.proofs.writing.put_tables.Given as goal

abbrev pub invariant-loop-s : goal.invariant-loop-s
invariant-loop-s l = AreWrittenTo (shown_at l.set l.tables) l.at l.place l.initial.out l.out l.s
