use Rattle.explain.proofs.OneRead.{one_read}
use Rattle.explain.proofs.laws.one_reading.Goals as goal

pub returns : goal.returns
returns c = one_read
