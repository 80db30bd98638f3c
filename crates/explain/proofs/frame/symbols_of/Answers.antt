use Rattle.std.proofs.Common.{◌∙◌, ℕ, ap}
use Rattle.explain.specs.Frame.{frame_at, seen_slot}
use Rattle.explain.proofs.frame.symbols_of.Goals as goal

pub returns-clause-symbols : goal.returns-clause-symbols
returns-clause-symbols c =
    c.symbols_in.ensures.symbols c.args.place.id
    ∙ ap (λ (start : ℕ). (seen_slot c.args.recording.now (frame_at start c.args.j) c.args.number c.args.place.id).symbols) c.start.ensures.value
