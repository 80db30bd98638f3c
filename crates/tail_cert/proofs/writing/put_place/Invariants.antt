use Rattle.tail_cert.specs.Form.{value_bytes}
use Rattle.tail_cert.proofs.Pieces.{IsWritten}
use Rattle.tail_cert.proofs.writing.put_place.Given as goal

abbrev pub invariant-loop-t : goal.invariant-loop-t
invariant-loop-t l = IsWritten value_bytes 2 l.values l.at l.initial.out l.out l.t
