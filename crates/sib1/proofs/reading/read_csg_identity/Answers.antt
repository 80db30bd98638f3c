use Rattle.uper.proofs.Reading.{reads_bind, fails_bind}
use Rattle.uper.specs.Grammar.{if_present}
use Rattle.uper.proofs.Steps.{exit, reads_done}
use Rattle.sib1.proofs.reading.read_csg_identity.Goals as goal

pub returns-in_err-identity : goal.returns-in_err-identity
unfolding if_present
returns-in_err-identity c = exit _ _ _ _ c.in_err-identity.field-0.0 c.from_residual.ensures.1 (rw c.if-present.true (fails_bind _ _ _ _ c.in_err-identity.ensures.reads))

pub returns-in_ok-identity : goal.returns-in_ok-identity
unfolding if_present
returns-in_ok-identity c = rw c.if-present.true (reads_bind _ _ _ _ _ _ c.in_ok-identity.ensures.reads (reads_done _ _))

pub returns-else-present : goal.returns-else-present
unfolding if_present
returns-else-present c = rw c.if-present.false (reads_done _ _)
