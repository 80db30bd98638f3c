use Rattle.tail_cert.specs.Form.{row_bytes}
use Rattle.tail_cert.proofs.Pieces.{IsWritten}
use Rattle.tail_cert.proofs.writing.put_table.Given as goal

abbrev pub invariant-loop-i : goal.invariant-loop-i
invariant-loop-i l = IsWritten row_bytes 256 l.table l.at l.initial.out l.out l.i
