use Rattle.erasure.proofs.Whole.{whole_block_is_resolvable}
use Rattle.erasure.proofs.laws.whole_block_is_resolvable.Goals as goal

pub returns : goal.returns
returns c = whole_block_is_resolvable
