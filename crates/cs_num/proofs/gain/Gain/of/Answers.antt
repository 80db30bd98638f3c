use Rattle.std.proofs.Common.{◌≤◌, arith, sym, subst}
use Rattle.cs_num.specs.Complex.{square}
use Rattle.cs_num.specs.Gain.{IsGain}
use Rattle.cs_num.proofs.Gains.{in_16_bits}
use Rattle.cs_num.proofs.gain.Gain.of.Goals as goal

pub invariant_of-result : goal.invariant_of-result
invariant_of-result c =
    let z = c.args.number in
    let least : 1 ≤ square z = omega (arith, c.norm-square.ensures, c.if-square-ge1.true) in
    let most : square z ≤ 784 = omega (arith, c.norm-square.ensures, c.if-square-le784.true) in
    let is : IsGain z = record { least = least; most = most } in
    subst IsGain (sym (in_16_bits z is)) is
