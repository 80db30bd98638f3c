use Rattle.cancel.proofs.Found.{best_is_one}
use Rattle.cancel.proofs.Once.{one_subtraction}
use Rattle.cancel.proofs.laws.best_candidate_is_one.Goals as goal

pub returns-clause-best : goal.returns-clause-best
returns-clause-best c = best_is_one

pub returns-clause-answer : goal.returns-clause-answer
returns-clause-answer c = one_subtraction
