use Rattle.wide_list.proofs.Same.{one_wide_system}
use Rattle.wide_list.proofs.Exists.{some_wide_system}
use Rattle.wide_list.proofs.laws.one_wide_system.Goals as goal

pub returns-clause-one : goal.returns-clause-one
returns-clause-one c = one_wide_system

pub returns-clause-some : goal.returns-clause-some
returns-clause-some c = some_wide_system
