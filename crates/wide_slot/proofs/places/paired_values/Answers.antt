use Rattle.std.proofs.Common.{arith, ◌≡◌, ◌∙◌, ◌+◌, ◌*◌, ◌/◌, ◌++◌, ap, ap₂, sym, length}
use Rattle.finite.specs.Lists.{joined_below}
use Rattle.finite.proofs.Lists.{joined_below_none, joined_below_more}
use Rattle.wide_slot.specs.Slot.{WideSeen}
use Rattle.wide_slot.specs.Values.{pair_values, place_at, paired_at}
use Rattle.wide_slot.proofs.places.paired_values.Goals as goal

pub loop-i-init : goal.loop-i-init
loop-i-init c = c.in_ok-values.ensures.items ∙ sym (joined_below_none (paired_at c.args.first.now c.args.second.now c.args.places.now))

pub loop-i-preserved : goal.loop-i-preserved
loop-i-preserved c =
    let here = c.pair_values-four.ensures ∙ ap (λ (seen : WideSeen). pair_values seen c.loop-i.i (place_at c.args.places.now (2 * c.loop-i.i)) (place_at c.args.places.now (2 * c.loop-i.i + 1))) c.slot_of.ensures in
    c.in_ok-extend_from_slice.ensures.items ∙ ap₂ (λ before more. before ++ more) c.loop-i.invariant here
    ∙ sym (joined_below_more c.loop-i.i (paired_at c.args.first.now c.args.second.now c.args.places.now))

pub returns : goal.returns
returns c =
    let last : c.loop-i.i ≡ length c.args.places.now / 2 = omega arith in
    c.loop-i.invariant ∙ ap (λ n. joined_below n (paired_at c.args.first.now c.args.second.now c.args.places.now)) last
