use Rattle.wide_control.proofs.Once.{one_control}
use Rattle.wide_control.proofs.Exists.{some_control}
use Rattle.wide_control.proofs.laws.one_control.Goals as goal

pub returns-clause-one : goal.returns-clause-one
returns-clause-one c = one_control

pub returns-clause-some : goal.returns-clause-some
returns-clause-some c = some_control
