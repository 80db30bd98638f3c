use Rattle.std.proofs.Common.{◌∙◌, ℕ, [], ap, slice_index_or}
use Rattle.explain.specs.Frame.{frame_at, seen_slot}
use Rattle.explain.proofs.frame.broadcast_front.Goals as goal

pub returns-clause-front : goal.returns-clause-front
returns-clause-front c symbol below =
    c.front_in.ensures.front c.args.place.id symbol below
    ∙ ap (λ (start : ℕ). slice_index_or (seen_slot c.args.recording.now (frame_at start c.args.j) 1 c.args.place.id).symbols symbol []) c.start.ensures.value
