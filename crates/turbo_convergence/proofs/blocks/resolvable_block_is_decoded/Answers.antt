use Rattle.turbo_convergence.proofs.Iterates.{resolvable_is_decoded}
use Rattle.turbo_convergence.proofs.blocks.resolvable_block_is_decoded.Goals as goal

pub returns : goal.returns
returns c = λ row word sent sums is_row size passed decoded can. resolvable_is_decoded row word sent sums is_row size decoded passed can
