use Rattle.std.proofs.Common.{arith}
use Rattle.wide_control.proofs.word.sums_of.Goals as goal

pub returns-clause-magnitudes : goal.returns-clause-magnitudes
returns-clause-magnitudes g c = λ k d inside j e within.
    let count = c.requires.count in
    let low = c.requires.low in
    let few = c.combine.ensures.magnitudes 127 8 c.requires.magnitudes (omega (arith, count, low)) k d inside j e within in
    omega (arith, few)
