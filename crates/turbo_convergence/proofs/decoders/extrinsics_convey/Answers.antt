use Rattle.turbo_convergence.proofs.Found.{extrinsic_conveys}
use Rattle.turbo_convergence.proofs.decoders.extrinsics_convey.Goals as goal

pub returns : goal.returns
returns c = λ word sent known v decoded k inside. extrinsic_conveys word sent known v decoded k inside
