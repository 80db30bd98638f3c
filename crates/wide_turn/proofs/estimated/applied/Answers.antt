use Rattle.std.proofs.Common.{◌≤◌, ◌^◌, arith}
use Rattle.std.proofs.Math.Pow.{pow_mono}
use Rattle.wide_turn.proofs.estimated.applied.Goals as goal

pub turned-requires-clause-few : goal.turned-requires-clause-few
turned-requires-clause-few c =
    let small : 2 ^ c.args.rate ≤ 2 ^ 4 = pow_mono {i = c.args.rate} {j = 4} (omega arith) in
    omega (arith, c.requires.most, small)
