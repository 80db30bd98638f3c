use Rattle.std.proofs.Common.{arith, refl, ◌≡◌, ◌-◌, ◌*◌, ◌∙◌, length, ap}
use Rattle.finite.specs.Sums.{total_below}
use Rattle.finite.proofs.Sums.{total_below_more}
use Rattle.cs_num.specs.Complex.{value_at}
use Rattle.evidence.specs.Evidence.{difference_power, differences}
use Rattle.evidence.proofs.noise.differences_of.Goals as goal

pub loop-i-init : goal.loop-i-init
unfolding total_below
loop-i-init c = record { so_far = refl; small = omega arith }

pub loop-i-preserved : goal.loop-i-preserved
loop-i-preserved c =
    let before = c.loop-i.invariant.so_far in
    let here = c.difference_power-sum.ensures.value in
    let more = total_below_more c.loop-i.i (difference_power c.args.stride (value_at c.args.pilots.now)) in
    record { so_far = cc; small = omega arith }

pub returns-clause-value : goal.returns-clause-value
unfolding differences
returns-clause-value c =
    let some = c.requires.some in
    let last : c.loop-i.i ≡ length c.args.pilots.now - 2 * c.args.stride = omega (arith, some) in
    c.loop-i.invariant.so_far ∙ ap (λ n. total_below n (difference_power c.args.stride (value_at c.args.pilots.now))) last
