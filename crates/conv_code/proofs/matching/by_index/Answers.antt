use Rattle.std.proofs.Common.{ap, arith, refl, get_or}
use Rattle.conv_code.proofs.ByIndex.{none_indexed, index_below, indexed_more}
use Rattle.conv_code.proofs.matching.by_index.Goals as goal

pub loop-p-init : goal.loop-p-init
loop-p-init g c = none_indexed g.row.N c.args.placed.now _ refl

pub offset_bounds-sums-order : goal.offset_bounds-sums-order
offset_bounds-sums-order g c =
    let below = index_below g.row.N c.loop-p.p _ c.requires.high c.loop-p-test.true c.stream_indices-order.ensures in
    omega (arith, below, c.requires.high)

pub bounds-sums-order : goal.bounds-sums-order
bounds-sums-order g c = index_below g.row.N c.loop-p.p _ c.requires.high c.loop-p-test.true c.stream_indices-order.ensures

pub loop-p-preserved : goal.loop-p-preserved
loop-p-preserved g c =
    indexed_more g.row.N c.args.placed.now c.loop-p.sums c.loop-p.p _ _ c.requires.high c.loop-p-test.true
    (ap (λ order. get_or order c.loop-p.p 0) c.stream_indices-order.ensures) c.sums_at.ensures.length c.sums_at.ensures.sums c.loop-p.invariant

pub returns-clause-sums : goal.returns-clause-sums
returns-clause-sums g c t p h below = c.loop-p.invariant.each t p h (omega arith)
