use Rattle.std.proofs.Common.{arith}
use Rattle.sib1_reader.proofs.control.sums_of.Goals as goal

pub returns-clause-magnitudes : goal.returns-clause-magnitudes
returns-clause-magnitudes c = λ k d inside j e within.
    let count = c.told-values in
    let few = c.combine.ensures.magnitudes 127 3 c.requires (omega (arith, count)) k d inside j e within in
    omega (arith, few)
