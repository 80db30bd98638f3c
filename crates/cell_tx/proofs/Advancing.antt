-- Pieces in order: the samples so far, the piece, and the remaining samples.
use Rattle.std.proofs.Common.{◌≡◌, ℕ, ◌+◌, ◌-◌, ◌<◌, ◌≤◌, List, ◌++◌, arith, refl, sym, ap, ◌∙◌, length, take, drop}
use Rattle.std.proofs.Math.Seq.{take-add}
use Rattle.std.proofs.lemmas.List.{length-drop, length-take-le, take-append-drop, drop-drop}
use Rattle.cs_num.specs.declared.Sample.{Sample}
use Rattle.cell_tx.specs.Emitting.{Progress, piece_end, piece_of}

-- q follows p
module _ (p q : Progress) (samples : q.samples ≡ p.samples) (from : q.from ≡ p.at) (at : q.at ≡ piece_end p) (below : p.at < length p.samples) where
  -- the piece is not empty
  pub grows : p.at < q.at
  grows = omega (arith, at, below)

  -- the piece ends within the samples
  pub ends_within : q.at ≤ length p.samples
  ends_within = omega (arith, at)

  here : piece_of q ≡ take (q.at - p.at) (drop p.at p.samples)
  here = rw (samples, from) refl

  pub count : length (piece_of q) ≡ q.at - p.at
  count = ap length here ∙ length-take-le (q.at - p.at) (drop p.at p.samples) (omega (arith, length-drop p.at p.samples, ends_within))

  -- the next piece begins where this one ends
  pub reaches : p.at + length (piece_of q) ≡ q.at
  reaches = omega (arith, count, grows)

  -- the samples so far, extended by the piece
  pub front_is : take q.at p.samples ≡ take p.at p.samples ++ piece_of q
  front_is =
      let split : q.at ≡ p.at + (q.at - p.at) = omega (arith, grows) in
      ap (λ (n : ℕ). take n p.samples) split ∙ take-add p.at (q.at - p.at) p.samples ∙ ap (λ (l : List Sample). take p.at p.samples ++ l) (sym here)

  -- the piece begins the remaining samples
  pub rest_is : drop p.at p.samples ≡ piece_of q ++ drop q.at p.samples
  rest_is =
      let split : p.at + (q.at - p.at) ≡ q.at = omega (arith, grows) in
      sym
      (ap (λ (l : List Sample). l ++ drop q.at p.samples) here
      ∙ ap (λ (l : List Sample). take (q.at - p.at) (drop p.at p.samples) ++ l) (sym (drop-drop (q.at - p.at) p.at p.samples ∙ ap (λ (n : ℕ). drop n p.samples) split))
      ∙ take-append-drop (q.at - p.at) (drop p.at p.samples))
