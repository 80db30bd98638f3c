use Rattle.sib1.specs.Layout.{digit}
use Rattle.uper.proofs.Steps.{exit, times_ok, times_later, times_err, times_zero}
use Rattle.sib1.proofs.read_plmns.read_two_digits.Goals as goal

pub returns-in_err-a : goal.returns-in_err-a
returns-in_err-a c = exit _ _ _ _ c.in_err-a.field-0.0 c.from_residual.ensures.1 (times_err 1 digit _ _ c.in_err-a.ensures)

pub returns-in_err-b : goal.returns-in_err-b
returns-in_err-b c = exit _ _ _ _ c.in_err-b.field-0.0 c.from_residual-in_err-b.ensures.1 (times_later 1 digit _ _ _ _ c.in_ok-a.ensures (times_err 0 digit _ _ c.in_err-b.ensures))

pub returns : goal.returns
returns c = times_ok 1 digit _ _ _ _ _ c.in_ok-a.ensures (times_ok 0 digit _ _ _ _ _ c.in_ok-b.ensures (times_zero digit _))
