use Rattle.budget.proofs.SignalPaths.{signals_are_through, signals_over_are_through, primary_over_is_within}
use Rattle.budget.proofs.signal_paths.signals_stand_over_several_paths.Goals as goal

pub returns-clause-one_gain : goal.returns-clause-one_gain
returns-clause-one_gain c = signals_are_through

pub returns-clause-through : goal.returns-clause-through
returns-clause-through c = signals_over_are_through

pub returns-clause-primary : goal.returns-clause-primary
returns-clause-primary c = primary_over_is_within
