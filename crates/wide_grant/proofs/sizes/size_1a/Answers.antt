use Rattle.std.proofs.Common.{refl}
use Rattle.dci.specs.Sizes.{column_2, column_3}
use Rattle.wide_grant.specs.Sizes.{sizes_1a}
use Rattle.wide_grant.proofs.sizes.size_1a.Goals as goal

pub returns-then-low : goal.returns-then-low
unfolding sizes_1a column_3
returns-then-low c = rw c.if-low.true refl

pub returns-else-low : goal.returns-else-low
unfolding sizes_1a column_2
returns-else-low c = rw c.if-low.false refl
