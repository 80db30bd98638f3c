use Rattle.clean_air.proofs.Plans.{one_plan_of}
use Rattle.clean_air.proofs.planning.one_plan.Goals as goal

pub returns : goal.returns
returns c = one_plan_of
