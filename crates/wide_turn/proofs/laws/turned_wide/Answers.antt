use Rattle.wide_turn.proofs.OneWay.{one_applied, turned_alike}
use Rattle.wide_turn.proofs.laws.turned_wide.Goals as goal

pub returns-clause-applied : goal.returns-clause-applied
returns-clause-applied c = one_applied

pub returns-clause-alike : goal.returns-clause-alike
returns-clause-alike c = turned_alike
