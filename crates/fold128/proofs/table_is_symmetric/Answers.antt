use Rattle.fold128.proofs.Laws.{w_has_period, half_turn_negates, quarter_turn_is_j, backward_is_conjugate}
use Rattle.fold128.proofs.table_is_symmetric.Goals as goal

pub returns-clause-period : goal.returns-clause-period
returns-clause-period c = w_has_period

pub returns-clause-half_turn : goal.returns-clause-half_turn
returns-clause-half_turn c = half_turn_negates

pub returns-clause-quarter_turn : goal.returns-clause-quarter_turn
returns-clause-quarter_turn c = quarter_turn_is_j

pub returns-clause-backward : goal.returns-clause-backward
returns-clause-backward c = backward_is_conjugate
