use Rattle.std.proofs.Common.{◌≡◌, ◌∙◌, ◌*◌, ap, ap₂, sym, arith}
use Rattle.std.specs.Prelude.{map}
use Rattle.std.proofs.lemmas.List.{get_or_default, take_all}
use Rattle.soft_bits.specs.Soft.{SeenSlot}
use Rattle.pbch.specs.Values.{received_values, identity_of, summed_values, coded_values}
use Rattle.pbch.proofs.FrameSums.{no_slot, first_identity, frames_of_slots}
use Rattle.pbch.proofs.broadcast.values.Goals as goal

pub returns-clause-values : goal.returns-clause-values
unfolding coded_values
returns-clause-values c =
    let slots = c.args.slots.now in
    let last = c.loop-slot-test.false in
    let first = c.index-slots-0.result in
    let id : c.id.result ≡ identity_of slots =
    c.id.ensures ∙ ap (λ (slot : SeenSlot). slot.identity) (c.index-slots-0.is ∙ get_or_default slots 0 first no_slot c.requires.some) ∙ sym (first_identity slots) in
    c.sums_of.ensures.values
    ∙ ap₂ (λ identity received. summed_values identity (480 * c.args.phase) received) id
    (frames_of_slots slots _ (c.as_slice.ensures.value ∙ c.loop-slot.invariant.so_far ∙ ap (map received_values) (take_all c.loop-slot.slot-index slots (omega (arith, last)))))
