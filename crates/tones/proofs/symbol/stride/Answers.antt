use Rattle.std.proofs.Common.{arith, ◌-◌, ◌^◌, ◌≤◌}
use Rattle.std.proofs.Math.Pow.{pow_mono}
use Rattle.tones.proofs.symbol.stride.Goals as goal

pub returns-clause-small : goal.returns-clause-small
returns-clause-small c =
    let h : 2 ^ (4 - c.args.rate) ≤ 2 ^ 4 = pow_mono {i = 4 - c.args.rate} {j = 4} (omega arith) in
    omega (arith, h)
