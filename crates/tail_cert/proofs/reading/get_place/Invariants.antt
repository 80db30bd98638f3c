use Rattle.std.proofs.Common.{◌≤◌}
use Rattle.std.specs.Prelude.{nat_abs}
use Rattle.tail_cert.specs.Form.{value_bytes}
use Rattle.tail_cert.proofs.Elements.{IsReadTo}
use Rattle.tail_cert.proofs.reading.get_place.Given as goal

abbrev pub invariant-loop-t : goal.invariant-loop-t
invariant-loop-t l = IsReadTo value_bytes (λ z. nat_abs z ≤ 2032) 2 3 l.at l.bytes l.values l.t
