use Rattle.uper.proofs.Reading.{fails_bind}
use Rattle.sib1.specs.Layout.{scheduling_info_list}
use Rattle.uper.proofs.Steps.{exit, reads_then}
use Rattle.sib1.proofs.read_schedule.read_scheduling_info_list.Goals as goal

pub returns-in_err-further : goal.returns-in_err-further
unfolding scheduling_info_list
returns-in_err-further c = exit _ _ _ _ c.in_err-further.field-0.0 c.from_residual.ensures.1 (fails_bind _ _ _ _ c.in_err-further.ensures.reads)

pub returns : goal.returns
unfolding scheduling_info_list
returns c = reads_then _ _ _ _ _ _ c.read_scheduling_infos.result c.in_ok-further.ensures.reads c.read_scheduling_infos.ensures
