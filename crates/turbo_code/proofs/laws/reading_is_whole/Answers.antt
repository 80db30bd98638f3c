use Rattle.turbo_code.proofs.Whole.{whole}
use Rattle.turbo_code.proofs.laws.reading_is_whole.Goals as goal

pub returns : goal.returns
returns c = whole
