use Rattle.turbo_dec.proofs.Greatest.{greatest_score_is_greatest}
use Rattle.turbo_dec.proofs.laws.greatest_scores.Goals as goal

pub returns : goal.returns
returns c = greatest_score_is_greatest
