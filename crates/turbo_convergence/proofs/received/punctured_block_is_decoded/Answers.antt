use Rattle.turbo_convergence.proofs.ReceivedSums.{punctured_block_is_decoded}
use Rattle.turbo_convergence.proofs.received.punctured_block_is_decoded.Goals as goal

pub returns : goal.returns
returns c = punctured_block_is_decoded
