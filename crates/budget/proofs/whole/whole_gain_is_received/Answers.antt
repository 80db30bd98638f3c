use Rattle.budget.proofs.Parts.{errors_have_energy, whole_gain_is_received, is_received_by_more}
use Rattle.budget.proofs.whole.whole_gain_is_received.Goals as goal

pub returns-clause-energy : goal.returns-clause-energy
returns-clause-energy c = errors_have_energy

pub returns-clause-received : goal.returns-clause-received
returns-clause-received c = whole_gain_is_received

pub returns-clause-more : goal.returns-clause-more
returns-clause-more c = is_received_by_more
