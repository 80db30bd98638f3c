use Rattle.tail_cert.specs.Form.{place_bytes}
use Rattle.tail_cert.proofs.Pieces.{IsWritten}
use Rattle.tail_cert.proofs.writing.put_values.Given as goal

abbrev pub invariant-loop-k : goal.invariant-loop-k
invariant-loop-k l = IsWritten place_bytes 6 l.values l.at l.initial.out l.out l.k
