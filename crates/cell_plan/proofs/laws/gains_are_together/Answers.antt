use Rattle.cell_plan.proofs.Powers.{gains_are_together}
use Rattle.cell_plan.proofs.laws.gains_are_together.Goals as goal

pub returns : goal.returns
returns c = gains_are_together
