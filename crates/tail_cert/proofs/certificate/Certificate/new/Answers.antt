use Rattle.tail_cert.proofs.Zeros.{zeros_are, zeros_stored}
use Rattle.tail_cert.proofs.certificate.Certificate.new.Goals as goal

pub invariant_of-result : goal.invariant_of-result
invariant_of-result c = (
  rw (c.zero_values.ensures, c.zero_word.ensures, c.zero_table.ensures, c.no_states.ensures, c.in_ok-tables.ensures.items) zeros_stored,
  c.in_ok-tables.ensures.capacity,
)

pub returns : goal.returns
returns c = rw (c.zero_values.ensures, c.zero_word.ensures, c.zero_table.ensures, c.no_states.ensures) (zeros_are c.in_ok-tables.tables.items)
