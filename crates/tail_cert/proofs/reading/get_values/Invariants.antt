use Rattle.tail_cert.specs.Certificate.{IsTriple}
use Rattle.tail_cert.specs.Form.{place_bytes}
use Rattle.tail_cert.proofs.Elements.{IsReadTo}
use Rattle.tail_cert.proofs.reading.get_values.Given as goal

abbrev pub invariant-loop-k : goal.invariant-loop-k
invariant-loop-k l = IsReadTo place_bytes IsTriple 6 40 4 l.bytes l.values l.k
