use Rattle.lte_top.proofs.Transmitted.{transmitted_done, transmitted_fault}
use Rattle.lte_top.proofs.transmitting.transmit.Goals as goal

pub returns-in-Ok-clause-done : goal.returns-in-Ok-clause-done
returns-in-Ok-clause-done g c = transmitted_done _ c.args.load _ _ _ _ c.in_ok-emission.ensures.ok c.with_load.ensures c.in-Ok.ensures.ok

pub returns-in-Err-clause-ended : goal.returns-in-Err-clause-ended
returns-in-Err-clause-ended g c = transmitted_fault _ c.args.load _ _ _ _ c.in_ok-emission.ensures.ok c.with_load.ensures c.in-Err.ensures.front c.in-Err.ensures.fault c.in-Err.ensures.full
