use Rattle.clean_air.proofs.Plans.{sent_entry_has_plan}
use Rattle.clean_air.proofs.planning.sent_entry_has_plan.Goals as goal

pub returns : goal.returns
returns c = sent_entry_has_plan
