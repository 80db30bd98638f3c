use Rattle.capture_make.proofs.Samples.{is_clean_number}
use Rattle.capture_make.proofs.made.numbers_are_clean.Goals as goal

pub returns : goal.returns
returns c = is_clean_number c.sum_is_clean.ensures.emitted
