use Rattle.turbo_convergence.proofs.ReceivedSums.{sent_block_is_decoded}
use Rattle.turbo_convergence.proofs.received.sent_block_is_decoded.Goals as goal

pub returns : goal.returns
returns c = sent_block_is_decoded
