use Rattle.std.proofs.Common.{◌≡◌, ℕ, ◌+◌, ◌<◌, ◌≤◌, List, ◌++◌, arith, sym, ap, ◌∙◌, length, take, take_all}
use Rattle.std.proofs.lemmas.Bool.{ltb-true, ltb-false}
use Rattle.cs_num.specs.declared.Sample.{Sample}
use Rattle.cell_tx.specs.Emitting.{Progress, piece_end, piece_of}
use Rattle.cell_tx.proofs.Advancing.{grows, ends_within, reaches, front_is}
use Rattle.cell_tx.proofs.emitter.put_all.Goals as goal

-- the next piece, after the samples so far
record IsStep (samples : List Sample) (at : ℕ) (q : Progress) : Type 0 where
  more : at < q.at
  within : q.at ≤ length samples
  there : at + length (piece_of q) ≡ q.at
  front : take q.at samples ≡ take at samples ++ piece_of q

step : (samples : List Sample) (at : ℕ) (p q : Progress) → p.samples ≡ samples → p.at ≡ at → q.samples ≡ p.samples → q.from ≡ p.at → q.at ≡ piece_end p
    → p.at < length p.samples → IsStep samples at q
step samples at p q all here same from ends below =
    let long = ap length all in
    let moves = grows p q same from ends below in
    record {
      more = omega (arith, moves, here);
      within = omega (arith, ends_within p q same from ends below, long);
      there = omega (arith, reaches p q same from ends below, here);
      front = rw (sym all, sym here) (front_is p q same from ends below);
    }

pub put_piece-requires : goal.put_piece-requires
put_piece-requires c =
    let p = c.loop-emitter.emitter in
    let q = c.advance.new.self in
    let a = c.advance.ensures in
    let s = step c.args.emitter.now.samples c.loop-emitter.at p q c.loop-emitter.invariant.samples c.loop-emitter.invariant.at a.samples a.from a.at
    (ltb-true p.at (length p.samples) (sym a.more ∙ c.loop-emitter-test.true)) in
    let piece : length c.piece-piece.result.now ≡ length (piece_of q) = ap length c.piece-piece.ensures in
    omega (arith, piece, s.there, s.within, c.loop-emitter.invariant.whole)

module _ (c : goal.After-out-1) where
  stepped : IsStep c.args.emitter.now.samples c.loop-emitter.at c.advance.new.self
  stepped =
      let p = c.loop-emitter.emitter in
      let a = c.advance.ensures in
      step c.args.emitter.now.samples c.loop-emitter.at p c.advance.new.self c.loop-emitter.invariant.samples c.loop-emitter.invariant.at a.samples a.from a.at
      (ltb-true p.at (length p.samples) (sym a.more ∙ c.loop-emitter-test.true))

  reached : c.loop-emitter.at + length c.piece-piece.result.now ≡ c.advance.new.self.at
  reached = ap (λ (l : List Sample). c.loop-emitter.at + length l) c.piece-piece.ensures ∙ stepped.there

pub loop-emitter-smaller : goal.loop-emitter-smaller
loop-emitter-smaller c = omega (arith, reached c, (stepped c).more, (stepped c).within)

pub loop-emitter-preserved : goal.loop-emitter-preserved
loop-emitter-preserved c =
    let s = stepped c in
    let samples = c.args.emitter.now.samples in
    record {
      samples = c.advance.ensures.samples ∙ c.loop-emitter.invariant.samples;
      at = sym (reached c);
      within = omega (arith, reached c, s.within);
      whole = c.put_piece.ensures.same_length ∙ c.loop-emitter.invariant.whole;
      done =
          c.put_piece.ensures.front
          ∙ ap (λ (l : List Sample). l ++ c.piece-piece.result.now) c.loop-emitter.invariant.done
          ∙ ap (λ (l : List Sample). take c.loop-emitter.at samples ++ l) c.piece-piece.ensures
          ∙ sym s.front
          ∙ ap (λ (n : ℕ). take n samples) (sym (reached c));
    }

pub returns : goal.returns
returns c =
    let samples = c.args.emitter.now.samples in
    let i = c.loop-emitter.invariant in
    let past : length c.loop-emitter.emitter.samples ≤ c.loop-emitter.emitter.at =
    ltb-false c.loop-emitter.emitter.at (length c.loop-emitter.emitter.samples) (sym c.advance.ensures.more ∙ c.loop-emitter-test.false) in
    let long = ap length i.samples in
    let most : length samples ≤ c.loop-emitter.at = omega (arith, past, long, i.at) in
    sym (take_all c.loop-emitter.at c.loop-emitter.out (omega (arith, most, i.whole))) ∙ i.done ∙ take_all c.loop-emitter.at samples most
