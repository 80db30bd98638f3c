use Rattle.sss_detect.proofs.Choices.{best_pair_is_best, only_one_is_best}
use Rattle.sss_detect.proofs.best_pair_is_first_of_greatest.Goals as goal

pub returns-clause-best : goal.returns-clause-best
returns-clause-best c = best_pair_is_best

pub returns-clause-only : goal.returns-clause-only
returns-clause-only c = only_one_is_best
