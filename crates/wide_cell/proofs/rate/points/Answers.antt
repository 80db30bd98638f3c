use Rattle.std.proofs.Common.{◌≤◌, ◌^◌, arith}
use Rattle.std.proofs.Math.Pow.{pow_mono, pow_pos}
use Rattle.wide_cell.proofs.rate.points.Goals as goal

pub returns-clause-bounds : goal.returns-clause-bounds
returns-clause-bounds c =
    let few : 2 ^ c.args.rate ≤ 2 ^ 4 = pow_mono {i = c.args.rate} {j = 4} c.requires in
    let some = pow_pos c.args.rate in
    (omega (arith, few, some), omega (arith, few, some))
