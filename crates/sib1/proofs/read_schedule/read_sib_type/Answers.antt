use Rattle.uper.proofs.Reading.{reads_bind, fails_bind}
use Rattle.sib1.specs.Layout.{sib_type}
use Rattle.uper.proofs.Steps.{exit, reads_done}
use Rattle.sib1.proofs.read_schedule.read_sib_type.Goals as goal

pub returns-in_err-is_extension : goal.returns-in_err-is_extension
unfolding sib_type
returns-in_err-is_extension c = exit _ _ _ _ c.in_err-is_extension.field-0.0 c.from_residual.ensures.1 (fails_bind _ _ _ _ c.in_err-is_extension.ensures)

pub returns-in_err-number : goal.returns-in_err-number
unfolding sib_type
returns-in_err-number c = exit _ _ _ _ c.in_err-number.field-0.0 c.from_residual-in_err-number.ensures.1 (reads_bind _ _ _ _ _ _ c.in_ok-is_extension.ensures (rw c.if-is_extension.true (fails_bind _ _ _ _ c.in_err-number.ensures.reads)))

pub returns-in_err-n : goal.returns-in_err-n
unfolding sib_type
returns-in_err-n c = exit _ _ _ _ c.in_err-n.field-0.0 c.from_residual-in_err-n.ensures.1 (reads_bind _ _ _ _ _ _ c.in_ok-is_extension.ensures (rw c.if-is_extension.true (reads_bind _ _ _ _ _ _ c.in_ok-number.ensures.reads (fails_bind _ _ _ _ c.in_err-n.ensures.reads))))

pub returns-in_ok-n : goal.returns-in_ok-n
unfolding sib_type
returns-in_ok-n c = reads_bind _ _ _ _ _ _ c.in_ok-is_extension.ensures (rw c.if-is_extension.true (reads_bind _ _ _ _ _ _ c.in_ok-number.ensures.reads (reads_bind _ _ _ _ _ _ c.in_ok-n.ensures.reads (reads_done _ _))))

pub returns-in_err-code : goal.returns-in_err-code
unfolding sib_type
returns-in_err-code c = exit _ _ _ _ c.in_err-code.field-0.0 c.from_residual-in_err-code.ensures.1 (reads_bind _ _ _ _ _ _ c.in_ok-is_extension.ensures (rw c.if-is_extension.false c.in_err-code.ensures.reads))

pub returns-in_ok-code : goal.returns-in_ok-code
unfolding sib_type
returns-in_ok-code c = reads_bind _ _ _ _ _ _ c.in_ok-is_extension.ensures (rw c.if-is_extension.false c.in_ok-code.ensures.reads)
