use Rattle.tones.proofs.Laws.{t_has_period, half_turn_negates, quarter_turn_is_j}
use Rattle.tones.proofs.table_is_symmetric.Goals as goal

pub returns-clause-period : goal.returns-clause-period
returns-clause-period c = t_has_period

pub returns-clause-half_turn : goal.returns-clause-half_turn
returns-clause-half_turn c = half_turn_negates

pub returns-clause-quarter_turn : goal.returns-clause-quarter_turn
returns-clause-quarter_turn c = quarter_turn_is_j
