use Rattle.budget.proofs.Scores.{terms_are_positive, sent_pair_is_greatest, sent_pair_is_best, sent_pair_is_identified}
use Rattle.budget.proofs.score.sent_pair_is_best.Goals as goal

pub returns-clause-terms : goal.returns-clause-terms
returns-clause-terms c = terms_are_positive

pub returns-clause-greatest : goal.returns-clause-greatest
returns-clause-greatest c = sent_pair_is_greatest

pub returns-clause-best : goal.returns-clause-best
returns-clause-best c = sent_pair_is_best

pub returns-clause-recording : goal.returns-clause-recording
returns-clause-recording c = sent_pair_is_identified
