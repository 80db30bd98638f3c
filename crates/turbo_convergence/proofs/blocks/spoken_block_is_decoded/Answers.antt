use Rattle.turbo_convergence.proofs.Iterates.{spoken_is_decoded}
use Rattle.turbo_convergence.proofs.blocks.spoken_block_is_decoded.Goals as goal

pub returns : goal.returns
returns c = spoken_is_decoded
