use Rattle.std.proofs.Common.{refl}
use Rattle.wide_grant.specs.Sizes.{sizes_1c}
use Rattle.wide_grant.proofs.sizes.size_1c.Goals as goal

pub returns : goal.returns
unfolding sizes_1c
returns c = refl
