use Rattle.std.proofs.Common.{ap, sym, ◌∙◌}
use Rattle.soft_bits.specs.Soft.{SeenSlot}
use Rattle.explain.specs.Frame.{frame_at}
use Rattle.explain.proofs.FirstFrame.{slot_number, slot_identity}
use Rattle.explain.proofs.slots.attempt_at.Goals as goal

pub decoded_in-requires-clause-first : goal.decoded_in-requires-clause-first
decoded_in-requires-clause-first g c = ap (λ (s : SeenSlot). s.number) c.slot_of-first.ensures ∙ slot_number c.args.recording.now (frame_at c.args.place.start c.args.j) 10 c.args.place.id

pub decoded_in-requires-clause-second : goal.decoded_in-requires-clause-second
decoded_in-requires-clause-second g c = ap (λ (s : SeenSlot). s.number) c.slot_of-second.ensures ∙ slot_number c.args.recording.now (frame_at c.args.place.start c.args.j) 11 c.args.place.id

pub decoded_in-requires-clause-cell : goal.decoded_in-requires-clause-cell
decoded_in-requires-clause-cell g c =
    ap (λ (s : SeenSlot). s.identity) c.slot_of-second.ensures ∙ slot_identity c.args.recording.now (frame_at c.args.place.start c.args.j) 11 c.args.place.id
    ∙ sym (ap (λ (s : SeenSlot). s.identity) c.slot_of-first.ensures ∙ slot_identity c.args.recording.now (frame_at c.args.place.start c.args.j) 10 c.args.place.id)
