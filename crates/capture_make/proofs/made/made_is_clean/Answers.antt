use Rattle.capture_make.proofs.Samples.{is_clean}
use Rattle.capture_make.proofs.made.made_is_clean.Goals as goal

pub returns : goal.returns
returns c = is_clean c.numbers_are_clean.ensures
