-- The output of `apply` has the cells that `tell` reports.
use Rattle.std.proofs.Common.{◌≡◌, ℕ, suc, ◌+◌, ◌-◌, ◌*◌, ◌/◌, ◌%◌, ◌++◌, [], ◌∷◌, arith, refl, ap, sym, subst, ◌∙◌, List, length, Option, Some, None, ℤ, pos, negsuc, FitsSigned}
use Rattle.std.specs.Prelude.{All, IfSome}
use Rattle.std.specs.Int.{w16, cast_unsigned}
use Rattle.std.proofs.lemmas.Int.{ints}
use Rattle.std.proofs.lemmas.Bool.Decides.{nat_tests}
use Rattle.std.proofs.lemmas.List.Elements.{All-head, All-tail}
use Rattle.finite.proofs.Lists.{values_below-All}
use Rattle.cs_num.specs.declared.Cpx.{Cpx}
use Rattle.cs_num.specs.declared.Sample.{Sample}
use Rattle.cs_num.specs.Complex.{silence}
use Rattle.cs_num.specs.Rounding.{nearest_sample}
use Rattle.cs_num.proofs.Samples.{in_16_bits-fits}
use Rattle.sample_file.specs.Recording.{component_of, samples_of, samples_in, sample_bytes, bytes_of, IsRecording}
use Rattle.frequency_offset.specs.declared.estimation.OffsetEstimate.{OffsetEstimate}
use Rattle.frequency_offset.specs.Turned.{turned_back, turned_at, turned}
use Rattle.frequency_offset.specs.Estimation.{HasCells, IsEstimated, IsApplied, turn_of}
use Rattle.frequency_offset.specs.Laws.{Has16Bits, ReportedCellsAreListed, TurnedIsRecording}
use Rattle.lte_top.specs.Applied.{WhatIsAppliedIsEstimated}

nearest_fits : (z : Cpx) → Has16Bits (nearest_sample z)
nearest_fits z = record { re = in_16_bits-fits z.re; im = in_16_bits-fits z.im }

turned_at_fits : (recording : List Sample) (m : ℤ) (i : ℕ) → Has16Bits (turned_at recording m i)
unfolding turned_at turned_back
turned_at_fits recording m i = nearest_fits _

turned_fits : (recording : List Sample) (m : ℤ) → All Has16Bits (turned recording m)
turned_fits recording m = values_below-All Has16Bits (length recording) (turned_at recording m) silence (λ k below. turned_at_fits recording m k)

-- ---- bytes parsed back into samples

component_back : (z : ℤ) → FitsSigned w16 z → component_of (cast_unsigned w16 z % 256) (cast_unsigned w16 z / 256 % 256) ≡ z
component_back (pos n) fits =
    let small = fits.sfits in
    let e : n % 256 + 256 * (n / 256 % 256) ≡ n = omega (arith, small) in
    rw e (grind (arith, nat_tests))
component_back (negsuc m) fits =
    let small = fits.sfits in
    let e : (65536 - suc m) % 256 + 256 * ((65536 - suc m) / 256 % 256) ≡ 65536 - suc m = omega (arith, small) in
    rw e (grind (arith, ints, nat_tests))

sample_back : (s : Sample) → Has16Bits s → samples_of (sample_bytes s) ≡ s ∷ []
sample_back s fits =
    ap (λ re. record { re = re; im = component_of (cast_unsigned w16 s.im % 256) (cast_unsigned w16 s.im / 256 % 256) } ∷ []) (component_back s.re fits.re) ∙
    ap (λ im. record { re = s.re; im = im } ∷ []) (component_back s.im fits.im)

read_back : (samples : List Sample) → All Has16Bits samples → samples_of (bytes_of samples) ≡ samples
read_back [] fits = refl
read_back (s ∷ rest) fits =
    ap (λ (first : List Sample). first ++ samples_of (bytes_of rest)) (sample_back s (All-head Has16Bits s rest fits)) ∙
    ap (λ more. s ∷ more) (read_back rest (All-tail Has16Bits s rest fits))

-- ---- corrected recordings

pub applied_is_estimated : TurnedIsRecording → ReportedCellsAreListed → WhatIsAppliedIsEstimated
applied_is_estimated is_recording are_there form bytes text applied valid a b =
    let r = samples_in form bytes in
    let turned_by = turned r (turn_of b.are.estimate) in
    let back : samples_of applied ≡ turned_by = ap samples_of b.bytes ∙ ap (λ s. samples_of (bytes_of s)) b.are.samples ∙ read_back turned_by (turned_fits r (turn_of b.are.estimate)) in
    let same : samples_of applied ≡ b.samples = back ∙ sym b.are.samples in
    record {
      estimate = a.estimate;
      text_is = a.is_text;
      recording = subst IsRecording (sym back) (is_recording r (turn_of b.are.estimate) valid);
      cells = cells_in r b.samples (samples_of applied) same b.are a.estimate a.is_estimated;
    }
  where
    cells_in : (r samples read : List Sample) → read ≡ samples → IsApplied r samples → (estimate : Option OffsetEstimate) → IsEstimated r estimate →
        IfSome estimate (λ estimate. HasCells read estimate.cells)
    cells_in r samples read e is None p = tt
    cells_in r samples read e is (Some estimate) p = subst (λ s. HasCells s estimate.cells) (sym e) (are_there r samples estimate p is)
