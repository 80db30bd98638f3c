use Rattle.lte_top.proofs.Ending.{certified_done, certified_fault}
use Rattle.lte_top.proofs.certifying.certify_recording.Goals as goal

pub returns-in-Ok-clause-done : goal.returns-in-Ok-clause-done
returns-in-Ok-clause-done g c = certified_done _ _ _ _ _ _ c.in_ok-recording.ensures.ok c.certify_list.ensures.list c.in-Ok.ensures.ok

pub returns-clause-ended : goal.returns-clause-ended
returns-clause-ended g c = certified_fault _ _ _ _ _ _ c.in_ok-recording.ensures.ok c.certify_list.ensures.list c.in-Err.ensures.err c.in-Err.ensures.fault
