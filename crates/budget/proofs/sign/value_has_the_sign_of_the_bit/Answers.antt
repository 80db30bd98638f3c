use Rattle.budget.proofs.Signs.{large_component_speaks, near_component_speaks}
use Rattle.budget.proofs.sign.value_has_the_sign_of_the_bit.Goals as goal

pub returns-clause-large : goal.returns-clause-large
returns-clause-large c = large_component_speaks

pub returns-clause-near : goal.returns-clause-near
returns-clause-near c = near_component_speaks
