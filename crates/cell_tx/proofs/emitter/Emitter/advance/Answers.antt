use Rattle.std.proofs.Common.{◌≡◌, ℕ, ◌+◌, ◌-◌, ◌%◌, nat_lt, arith, sym, subst, ap, ◌∙◌, length, min}
use Rattle.cell_tx.specs.declared.source.Source.{Source}
use Rattle.cell_tx.specs.declared.emitter.Emitter.TheInside.{Inside}
use Rattle.cell_tx.specs.Emitting.{Progress, IsMade, piece_end}
use Rattle.lte_types.specs.Timing.{number_of}
use Rattle.cell_tx.proofs.Pieces.{next_made, so_many}
use Rattle.cell_tx.proofs.emitter.Emitter.advance.Goals as goal
use Rattle.cell_tx.proofs.emitter.Emitter.advance.Goals.{then-more, else-more}

-- the state after the next piece
abbrev IsNext : Source → Inside → Type 0
IsNext e s = IsMade s.maker.source s.at (min (s.at + (19200 - (s.at + e.timing.offset) % 19200)) e.samples) s.frame

pub invariant_of-self : goal.invariant_of-self
invariant_of-self c =
    let s = c.self.inside in
    let e = s.maker.source in
    let is = c.self.invariant in
    rw c.min-self-inside.ensures
    (elim c.if-more.branch [
      | then-more w ↦
          subst (IsNext e) (sym w.self-inside-is)
          (next_made e s.from s.at s.frame w.make_frame_of.new.frame is (w.make_frame_of.auto.frame ∙ is.whole) (λ below. w.make_frame_of.ensures (number_of e.timing.sfn (s.from + e.timing.offset)) (λ some. is.held (is.begun some below))))
      | else-more w ↦
          let past = w.if-more.false in
          subst (IsNext e) (sym w.self-inside-is) (next_made e s.from s.at s.frame s.frame is is.whole (λ below. absurd (omega (arith, below, past))))
    ])

pub returns-clause-at : goal.returns-clause-at
returns-clause-at c =
    let s = c.self.inside in
    let e = s.maker.source in
    let same : c.if-more.self-inside.at ≡ s.at =
    elim c.if-more.branch [ then-more w ↦ ap (λ (x : Inside). x.at) w.self-inside-is | else-more w ↦ ap (λ (x : Inside). x.at) w.self-inside-is ] in
    c.min-self-inside.ensures
    ∙ ap (λ (n : ℕ). min (n + (19200 - (n + e.timing.offset) % 19200)) e.samples) same
    ∙ ap (min (s.at + (19200 - (s.at + e.timing.offset) % 19200))) (sym (so_many e))
    ∙ ap piece_end c.self.view_is

pub returns-clause-more : goal.returns-clause-more
returns-clause-more c =
    let s = c.self.inside in
    ap (nat_lt s.at) (sym (so_many s.maker.source)) ∙ ap (λ (p : Progress). nat_lt p.at (length p.samples)) c.self.view_is
