use Rattle.uper.proofs.Reading.{reads_bind, fails_bind}
use Rattle.uper.specs.Grammar.{if_present}
use Rattle.uper.proofs.Steps.{exit, reads_done}
use Rattle.sib1.proofs.read_plmns.read_mcc.Goals as goal

pub returns-in_err-digits : goal.returns-in_err-digits
unfolding if_present
returns-in_err-digits c = exit _ _ _ _ c.in_err-digits.field-0.0 c.from_residual.ensures.1 (rw c.if-present.true (fails_bind _ _ _ _ c.in_err-digits.ensures))

pub returns-in_ok-digits : goal.returns-in_ok-digits
unfolding if_present
returns-in_ok-digits c = rw c.if-present.true (reads_bind _ _ _ _ _ _ c.in_ok-digits.ensures (reads_done _ _))

pub returns-else-present : goal.returns-else-present
unfolding if_present
returns-else-present c = rw c.if-present.false (reads_done _ _)
