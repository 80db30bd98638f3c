use Rattle.four_ports.proofs.Reasons.{reasons_are_ports}
use Rattle.four_ports.proofs.clean.explain_clean.Goals as goal

pub returns-clause-reason : goal.returns-clause-reason
returns-clause-reason c = reasons_are_ports c.args.recording.now c.explain_clean_by.new.list c.explain_clean_by.ensures.list.explained
