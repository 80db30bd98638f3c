use Rattle.uper.proofs.Reading.{reads_bind, fails_bind}
use Rattle.sib1.specs.Layout.{mnc}
use Rattle.uper.proofs.Steps.{exit, reads_done}
use Rattle.sib1.proofs.read_plmns.read_mnc.Goals as goal

pub returns-in_err-is_long : goal.returns-in_err-is_long
unfolding mnc
returns-in_err-is_long c = exit _ _ _ _ c.in_err-is_long.field-0.0 c.from_residual.ensures.1 (fails_bind _ _ _ _ c.in_err-is_long.ensures)

pub returns-in_err-digits : goal.returns-in_err-digits
unfolding mnc
returns-in_err-digits c = exit _ _ _ _ c.in_err-digits.field-0.0 c.from_residual-in_err-digits.ensures.1 (reads_bind _ _ _ _ _ _ c.in_ok-is_long.ensures (rw c.if-is_long.true (fails_bind _ _ _ _ c.in_err-digits.ensures)))

pub returns-in_ok-digits : goal.returns-in_ok-digits
unfolding mnc
returns-in_ok-digits c = reads_bind _ _ _ _ _ _ c.in_ok-is_long.ensures (rw c.if-is_long.true (reads_bind _ _ _ _ _ _ c.in_ok-digits.ensures (reads_done _ _)))

pub returns-in_err-short : goal.returns-in_err-short
unfolding mnc
returns-in_err-short c = exit _ _ _ _ c.in_err-short.field-0.0 c.from_residual-in_err-short.ensures.1 (reads_bind _ _ _ _ _ _ c.in_ok-is_long.ensures (rw c.if-is_long.false (fails_bind _ _ _ _ c.in_err-short.ensures)))

pub returns-in_ok-short : goal.returns-in_ok-short
unfolding mnc
returns-in_ok-short c = reads_bind _ _ _ _ _ _ c.in_ok-is_long.ensures (rw c.if-is_long.false (reads_bind _ _ _ _ _ _ c.in_ok-short.ensures (reads_done _ _)))
