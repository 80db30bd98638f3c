use Rattle.uper.proofs.Reading.{reads_bind, fails_bind}
use Rattle.sib1.specs.Layout.{scheduling_info}
use Rattle.uper.proofs.Steps.{exit, reads_done}
use Rattle.sib1.proofs.read_schedule.read_scheduling_info.Goals as goal

pub returns-in_err-period : goal.returns-in_err-period
unfolding scheduling_info
returns-in_err-period c = exit _ _ _ _ c.in_err-period.field-0.0 c.from_residual.ensures.1 (fails_bind _ _ _ _ c.in_err-period.ensures.reads)

pub returns-in_err-count : goal.returns-in_err-count
unfolding scheduling_info
returns-in_err-count c = exit _ _ _ _ c.in_err-count.field-0.0 c.from_residual-in_err-count.ensures.1 (reads_bind _ _ _ _ _ _ c.in_ok-period.ensures.reads (fails_bind _ _ _ _ c.in_err-count.ensures.reads))

pub returns-in_err-sibs : goal.returns-in_err-sibs
unfolding scheduling_info
returns-in_err-sibs c = exit _ _ _ _ c.in_err-sibs.field-0.0 c.from_residual-in_err-sibs.ensures.1 (reads_bind _ _ _ _ _ _ c.in_ok-period.ensures.reads (reads_bind _ _ _ _ _ _ c.in_ok-count.ensures.reads (fails_bind _ _ _ _ c.in_err-sibs.ensures)))

pub returns : goal.returns
unfolding scheduling_info
returns c = reads_bind _ _ _ _ _ _ c.in_ok-period.ensures.reads (reads_bind _ _ _ _ _ _ c.in_ok-count.ensures.reads (reads_bind _ _ _ _ _ _ c.in_ok-sibs.ensures (reads_done _ _)))
