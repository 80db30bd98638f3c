use Rattle.pcfich.proofs.Indicators.{one_indicator, some_indicator, spoken_indicator}
use Rattle.pcfich.proofs.least.only_one_indicator.Goals as goal

pub returns-clause-one : goal.returns-clause-one
returns-clause-one c = one_indicator

pub returns-clause-clear : goal.returns-clause-clear
returns-clause-clear c = spoken_indicator

pub returns-clause-some : goal.returns-clause-some
returns-clause-some c = some_indicator
