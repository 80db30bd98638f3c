use Rattle.erasure.proofs.Unsent.{unsent_block_is_not_resolvable}
use Rattle.erasure.proofs.laws.unsent_block_is_not_resolvable.Goals as goal

pub returns : goal.returns
returns c = unsent_block_is_not_resolvable
