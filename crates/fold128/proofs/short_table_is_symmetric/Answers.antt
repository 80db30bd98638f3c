use Rattle.fold128.proofs.Laws.{z_has_period, z_backward_is_conjugate}
use Rattle.fold128.proofs.short_table_is_symmetric.Goals as goal

pub returns-clause-period : goal.returns-clause-period
returns-clause-period c = z_has_period

pub returns-clause-backward : goal.returns-clause-backward
returns-clause-backward c = z_backward_is_conjugate
