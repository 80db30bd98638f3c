use Rattle.clean_air.proofs.Plans.{faithful_entry_has_plan}
use Rattle.clean_air.proofs.planning.faithful_entry_has_plan.Goals as goal

pub returns : goal.returns
returns c = faithful_entry_has_plan
