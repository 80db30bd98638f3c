use Rattle.cancel.proofs.Estimates.{estimate_is_near, gain_is_candidate}
use Rattle.cancel.proofs.Best.{best_leaves_least}
use Rattle.cancel.proofs.laws.clean_gain_is_candidate.Goals as goal

pub returns-clause-near : goal.returns-clause-near
returns-clause-near c = estimate_is_near

pub returns-clause-candidate : goal.returns-clause-candidate
returns-clause-candidate c = gain_is_candidate

pub returns-clause-least : goal.returns-clause-least
returns-clause-least c = best_leaves_least
