use Rattle.two_tx.proofs.Samples.{is_clean}
use Rattle.two_tx.proofs.made.made_is_clean.Goals as goal

pub returns : goal.returns
returns c = is_clean c.numbers_are_clean.ensures
