use Rattle.std.proofs.Common.{arith}
use Rattle.wide_block.proofs.sums.combined.Goals as goal

pub returns-clause-small : goal.returns-clause-small
returns-clause-small c = λ k d inside j e within.
    let count = c.requires.count in
    let few = c.combine.ensures.magnitudes 127 32 c.requires.magnitudes (omega (arith, count)) k d inside j e within in
    omega (arith, few)
