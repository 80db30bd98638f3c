use Rattle.long_prefix.proofs.Samples.{is_clean}
use Rattle.long_prefix.proofs.made.made_is_clean.Goals as goal

pub returns : goal.returns
returns c = is_clean c.numbers_are_clean.ensures
