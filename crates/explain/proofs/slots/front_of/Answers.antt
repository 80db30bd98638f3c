use Rattle.std.proofs.Common.{◌∙◌, [], ap, sym, slice_index_or}
use Rattle.soft_bits.specs.Soft.{SeenSlot}
use Rattle.explain.specs.Frame.{frame_at}
use Rattle.explain.proofs.FirstFrame.{slot_number, slot_identity}
use Rattle.explain.proofs.slots.front_of.Goals as goal

pub returns : goal.returns
returns g c = record {
  number = ap (λ (s : SeenSlot). s.number) c.of.ensures ∙ sym (slot_number c.args.recording.now (frame_at c.args.place.start c.args.j) 1 c.args.place.id);
  identity =
      ap (λ (s : SeenSlot). s.identity) c.of.ensures ∙ c.id.ensures
      ∙ sym (slot_identity c.args.recording.now (frame_at c.args.place.start c.args.j) 1 c.args.place.id);
  symbols = λ symbol below. ap (λ (s : SeenSlot). slice_index_or s.symbols symbol []) c.of.ensures ∙ c.broadcast_front.ensures.front symbol below;
}
