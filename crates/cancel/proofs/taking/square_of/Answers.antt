use Rattle.std.proofs.Common.{arith}
use Rattle.cs_num.proofs.Complex.{square-within}
use Rattle.cancel.proofs.taking.square_of.Goals as goal

pub returns-clause-small : goal.returns-clause-small
returns-clause-small c =
    let most = square-within c.from.result 32768 c.from.ensures.1 in
    let e = c.norm.ensures in
    omega (arith, most, e)
