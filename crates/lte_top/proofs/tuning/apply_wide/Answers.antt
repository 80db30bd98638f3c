use Rattle.lte_top.specs.Signals.{rated}
use Rattle.lte_top.proofs.Ending.{applied_done, applied_fault}
use Rattle.lte_top.proofs.tuning.apply_wide.Goals as goal

pub returns-in-Ok-clause-done : goal.returns-in-Ok-clause-done
returns-in-Ok-clause-done g c =
    applied_done _ (rated c.args.form c.args.rate) _ _ _ _ _ c.in_ok-samples.ensures.ok c.in_ok-turned.ensures c.deref.ensures.value c.in-Ok.ensures.ok

pub returns-clause-ended : goal.returns-clause-ended
returns-clause-ended g c =
    applied_fault _ (rated c.args.form c.args.rate) _ _ _ _ _ c.in_ok-samples.ensures.ok c.in_ok-turned.ensures c.deref.ensures.value c.in-Err.ensures.front c.in-Err.ensures.full c.in-Err.ensures.fault
