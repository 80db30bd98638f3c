use Rattle.std.proofs.Common.{arith, pos, ◌+ℤ◌, get_or}
use Rattle.finite.proofs.Lists.{values_below_is}
use Rattle.wide_block.proofs.table.row_sums.Goals as goal

pub returns : goal.returns
returns c =
    values_below_is (pos 0) 1028 (λ i. get_or c.args.a.now i (pos 0) +ℤ get_or c.args.b.now i (pos 0)) c.loop-i.sums c.loop-i.invariant.size
    (λ j below. c.loop-i.invariant.at j (omega (arith, c.loop-i-test.false, below)))
