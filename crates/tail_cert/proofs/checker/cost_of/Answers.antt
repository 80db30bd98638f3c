use Rattle.std.proofs.Common.{◌≡◌, length, sym, arith}
use Rattle.finite.proofs.Sums.{total_below_none, total_below_more}
use Rattle.conv_code.specs.Cost.{cost_at, word_cost}
use Rattle.tail_cert.proofs.Places.{coded_place}
use Rattle.tail_cert.proofs.checker.cost_of.Goals as goal

pub loop-k-init : goal.loop-k-init
loop-k-init c = (sym (total_below_none (cost_at c.args.values.now c.args.word.now)), omega arith)

pub overflow_add-cost : goal.overflow_add-cost
overflow_add-cost c =
    let here = c.against-cost.ensures.bound 1048576 (c.requires.magnitudes _ _ (omega (arith, c.loop-k-test.true, c.told-values))) in
    omega (arith, here, c.loop-k.invariant.1, c.loop-k-test.true)

pub loop-k-preserved : goal.loop-k-preserved
loop-k-preserved c =
    let place = coded_place c.args.values.now c.args.word.now c.encode-coded.result c.loop-k.k c.encode-coded.ensures (omega (arith, c.requires.bits)) in
    let more = total_below_more c.loop-k.k (cost_at c.args.values.now c.args.word.now) in
    (omega (arith, place, more, c.against-cost.ensures.cost), let here = c.against-cost.ensures.bound 1048576 (c.requires.magnitudes _ _ (omega (arith, c.loop-k-test.true, c.told-values))) in omega (arith, here))

pub returns : goal.returns
unfolding word_cost
returns c =
    let k : c.loop-k.k ≡ length c.args.values.now = omega (arith, c.told-values) in
    rw (← k) c.loop-k.invariant.0
