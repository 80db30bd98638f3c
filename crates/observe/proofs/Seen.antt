-- Bounds on demodulated values, and the samples that they depend on.
use Rattle.std.proofs.Common.{◌≡◌, ℕ, ◌+◌, ◌-◌, ◌*◌, ◌<◌, drop, arith, ap, List, ◌∙◌}
use Rattle.std.specs.Prelude.{slice_range}
use Rattle.finite.specs.Lists.{values_below}
use Rattle.finite.proofs.Lists.{values_below_at, values_below_same}
use Rattle.cs_num.specs.declared.Cpx.{Cpx}
use Rattle.cs_num.specs.declared.Sample.{Sample}
use Rattle.cs_num.specs.Complex.{IsWithin, nothing, times, conjugate, value_at, value_of, sample_at, silence}
use Rattle.cs_num.specs.Rounding.{rounded}
use Rattle.cs_num.proofs.Rounding.{rounds_within}
use Rattle.cs_num.proofs.Sums.{complex_sum_below_same}
use Rattle.fold128.specs.Tables.{w_at}
use Rattle.fold128.specs.Symbol.{frequency}
use Rattle.fold128.specs.Spectrum.{spectrum_term, spectrum_at, spectrum}
use Rattle.observe.specs.Seen.{seen, seen_symbol}
use Rattle.observe.specs.Steps.{seen_of, rounded_values}
use Rattle.std.proofs.lemmas.List.{get_or-take, get_or-drop}

pub rounded-within : (z : Cpx) → IsWithin 97182023680 z → IsWithin 23726080 (rounded z 12)
rounded-within z p = record {
  re = rounds_within z.re 2048 23726080 (omega arith) (omega (arith, p.re));
  im = rounds_within z.im 2048 23726080 (omega arith) (omega (arith, p.im));
}

-- samples that agree have the same sums
spectrum_same : (f g : ℕ → Cpx) (k : ℕ) → ((n : ℕ) → n < 128 → f n ≡ g n) → spectrum_at f k ≡ spectrum_at g k
unfolding spectrum_at
spectrum_same f g k h =
    complex_sum_below_same 128 (spectrum_term f k) (spectrum_term g k) (λ n l. ap (λ z. times z (conjugate (w_at (frequency k * n)))) (h n l))

-- the symbol at start is demodulated from the 128 samples there
pub seen_is : (recording : List Sample) (start : ℕ) → seen_of (sample_at (slice_range recording start (start + 128))) ≡ seen_symbol recording start
unfolding seen_of seen_symbol seen
seen_is recording start = values_below_same 72
    (λ k. rounded (spectrum_at (sample_at (slice_range recording start (start + 128))) k) 12) (seen recording start)
    (λ k l. ap (λ z. rounded z 12) (spectrum_same (sample_at (slice_range recording start (start + 128))) (λ n. sample_at recording (start + n)) k
    (λ n below. ap value_of (get_or-take (start + 128 - start) (drop start recording) n silence (omega arith) ∙ get_or-drop start recording n silence))))

-- the values for samples are their sums, rounded
pub rounded_is : (samples : ℕ → Cpx) → rounded_values (value_at (spectrum samples)) ≡ seen_of samples
unfolding rounded_values spectrum seen_of
rounded_is samples = values_below_same 72
    (λ k. rounded (value_at (values_below 72 (spectrum_at samples)) k) 12) (λ k. rounded (spectrum_at samples k) 12)
    (λ k l. ap (λ z. rounded z 12) (values_below_at (spectrum_at samples) 72 k nothing l))
