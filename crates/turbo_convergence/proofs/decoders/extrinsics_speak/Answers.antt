use Rattle.turbo_convergence.proofs.Iterates.{extrinsics_speak}
use Rattle.turbo_convergence.proofs.decoders.extrinsics_speak.Goals as goal

pub returns : goal.returns
returns c = extrinsics_speak
