use Rattle.std.proofs.Common.{arith, ◌≡◌, ◌∙◌, ◌++◌, ap, ap₂, sym, length}
use Rattle.finite.specs.Lists.{joined_below}
use Rattle.finite.proofs.Lists.{joined_below_none, joined_below_more}
use Rattle.wide_slot.specs.Slot.{WideSeen}
use Rattle.wide_slot.specs.Values.{place_values, place_at, single_at}
use Rattle.wide_slot.proofs.places.single_values.Goals as goal

pub loop-i-init : goal.loop-i-init
loop-i-init c = c.in_ok-values.ensures.items ∙ sym (joined_below_none (single_at c.args.first.now c.args.second.now c.args.places.now))

pub loop-i-preserved : goal.loop-i-preserved
loop-i-preserved c =
    let here = c.place_values-two.ensures ∙ ap (λ (seen : WideSeen). place_values seen (place_at c.args.places.now c.loop-i.i)) c.slot_of.ensures in
    c.in_ok-extend_from_slice.ensures.items ∙ ap₂ (λ before more. before ++ more) c.loop-i.invariant here
    ∙ sym (joined_below_more c.loop-i.i (single_at c.args.first.now c.args.second.now c.args.places.now))

pub returns : goal.returns
returns c =
    let last : c.loop-i.i ≡ length c.args.places.now = omega arith in
    c.loop-i.invariant ∙ ap (λ n. joined_below n (single_at c.args.first.now c.args.second.now c.args.places.now)) last
