use Rattle.std.proofs.Common.{◌≡◌, ℕ, ◌+◌, ◌-◌, ◌%◌, arith, ap, ◌∙◌, take, drop}
use Rattle.cell_tx.specs.Emitting.{piece_of}
use Rattle.cell_tx.proofs.Pieces.{piece_is}
use Rattle.cell_tx.proofs.emitter.Emitter.piece.Goals as goal

pub returns : goal.returns
returns c =
    let s = c.self.inside in
    let start : ℕ = (s.from + s.maker.source.timing.offset) % 19200 in
    let count : start + (s.at - s.from) - start ≡ s.at - s.from = omega arith in
    ap (λ (n : ℕ). take n (drop start s.frame)) count
    ∙ piece_is s.maker.source s.from s.at s.frame c.self.invariant
    ∙ ap piece_of c.self.view_is
