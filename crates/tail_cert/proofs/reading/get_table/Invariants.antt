use Rattle.tail_cert.specs.Certificate.{IsRow}
use Rattle.tail_cert.specs.Form.{row_bytes}
use Rattle.tail_cert.proofs.Elements.{IsReadTo}
use Rattle.tail_cert.proofs.reading.get_table.Given as goal

abbrev pub invariant-loop-i : goal.invariant-loop-i
invariant-loop-i l = IsReadTo row_bytes IsRow 256 40 l.at l.bytes l.table l.i
