use Rattle.std.proofs.Common.{refl}
use Rattle.lte_top.specs.Transmitting.{sent_samples}
use Rattle.lte_top.proofs.transmitting.with_load.Goals as goal

pub returns : goal.returns
unfolding sent_samples
returns c = refl
