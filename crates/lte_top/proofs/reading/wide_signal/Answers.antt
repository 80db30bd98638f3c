use Rattle.lte_top.proofs.Fronts.{wide_output}
use Rattle.lte_top.proofs.reading.wide_signal.Goals as goal

pub returns-clause-ok : goal.returns-clause-ok
returns-clause-ok g c = wide_output c.args.report.now c.args.form c.args.rate _ _ _ _ _ c.in_ok-wide.ensures.ok c.in_ok-narrow.ensures.value c.wide_for-kept.ensures
