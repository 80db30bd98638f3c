-- A source's pieces.
use Rattle.std.proofs.Common.{◌≡◌, ℕ, ◌+◌, ◌-◌, ◌/◌, ◌%◌, ◌<◌, List, slice_index_or, arith, sym, ap, ◌∙◌, length, take, drop, min, pos}
use Rattle.std.proofs.lemmas.Int.{ints}
use Rattle.std.proofs.lemmas.List.{length-drop, get_or-drop}
use Rattle.finite.proofs.Lists.{values_below-length, values_below_at, front_is}
use Rattle.cs_num.specs.declared.Sample.{Sample}
use Rattle.cs_num.specs.declared.Cpx.{Cpx}
use Rattle.cs_num.specs.Complex.{silence, times, sample_of}
use Rattle.cs_num.proofs.Complex.{pair}
use Rattle.lte_types.specs.Timing.{number_of}
use Rattle.cell_tx.specs.declared.source.Source.{Source}
use Rattle.cell_tx.specs.Emitting.{made, made_samples, framed, AreFrame, IsMade}
use Rattle.cell_tx.proofs.Mixing.{made_is}

-- the emitter's invariant holds for the next piece
pub next_made : (s : Source) (from at : ℕ) (old new : List Sample) → IsMade s from at old → length new ≡ 19200
    → (at < s.samples → AreFrame s (number_of s.timing.sfn (at + s.timing.offset)) new)
    → IsMade s at (min (at + (19200 - (at + s.timing.offset) % 19200)) s.samples) new
next_made s from at old new is whole there =
    let most = is.most in
    record {
      order = omega (arith, most);
      most = omega arith;
      whole = whole;
      within = omega (arith, most);
      held = λ some. there (omega (arith, some));
      begun = λ some below. omega (arith, below);
    }

-- the list of samples has the stated length
pub so_many : (s : Source) → length (made_samples s) ≡ s.samples
so_many s = values_below-length s.samples (λ i. sample_of (made s i))

module _ (s : Source) (from at : ℕ) (frame : List Sample) (is : IsMade s from at frame) where
  held_at : (k : ℕ) → k < at - from → slice_index_or frame ((from + s.timing.offset) % 19200 + k) silence ≡ sample_of (made s (from + k))
  held_at k below =
      let fits = is.within in
      let number : (from + k + s.timing.offset) / 19200 ≡ (from + s.timing.offset) / 19200 = omega (arith, fits, below) in
      let place : (from + k + s.timing.offset) % 19200 ≡ (from + s.timing.offset) % 19200 + k = omega (arith, fits, below) in
      is.held (omega (arith, below)) ((from + s.timing.offset) % 19200 + k) (omega (arith, fits, below))
      ∙ ap sample_of
      (ap (λ (n : ℕ). framed s ((s.timing.sfn + n) % 1024) ((from + s.timing.offset) % 19200 + k)) (sym number)
      ∙ ap (framed s (number_of s.timing.sfn (from + k + s.timing.offset))) (sym place)
      ∙ sym (made_is s (from + k)))

  -- a piece holds the samples from `from`, below `at`
  pub piece_is : take (at - from) (drop ((from + s.timing.offset) % 19200) frame) ≡ take (at - from) (drop from (made_samples s))
  piece_is =
      let f : ℕ → Sample = λ k. sample_of (made s (from + k)) in
      let first : ℕ = (from + s.timing.offset) % 19200 in
      let count : ℕ = at - from in
      let fits = is.within in
      let order = is.order in
      let most = is.most in
      front_is silence count f (drop first frame) (omega (arith, length-drop first frame, is.whole, fits))
      (λ k below. get_or-drop first frame k silence ∙ held_at k below)
      ∙ sym
      (front_is silence count f (drop from (made_samples s)) (omega (arith, length-drop from (made_samples s), so_many s, order, most))
      (λ k below. get_or-drop from (made_samples s) k silence ∙ values_below_at (λ i. sample_of (made s i)) s.samples (from + k) silence (omega (arith, below, order, most))))

-- a gain of 1 leaves a sample unchanged
pub times-one : (z : Cpx) → times (record { re = pos 1; im = pos 0 }) z ≡ z
times-one z = pair (omega (arith, ints)) (omega (arith, ints))
