-- The samples of a half-frame, and the ratios in them.
use Rattle.std.proofs.Common.{◌≡◌, ℕ, ◌+◌, ◌<◌, ◌≤◌, List, arith, ap, ap₂, ◌∙◌}
use Rattle.finite.proofs.Lists.{values_below_at}
use Rattle.finite.proofs.Sums.{total_below_same}
use Rattle.cs_num.specs.declared.Sample.{Sample}
use Rattle.cs_num.specs.Complex.{times, conjugate, square, sample_at, value_of, silence}
use Rattle.cs_num.proofs.Sums.{complex_sum_below_same}
use Rattle.std.specs.Prelude.{slice_index_or}
use Rattle.pss_search.specs.Correlation.{wave, wave_power, peak, peak_term, energy, energy_term}
use Rattle.accumulated_pss.specs.Sums.{ratio_of, ratio_at}
use Rattle.accumulated_pss.specs.Steps.{window_of}

-- peak, energy and ratio depend on 128 samples
module _ (first second : List Sample) (t u : ℕ) (same : (n : ℕ) → n < 128 → sample_at first (t + n) ≡ sample_at second (u + n)) where
  peak_same : (n2 : ℕ) → peak first n2 t ≡ peak second n2 u
  unfolding peak
  peak_same n2 = ap square
      (complex_sum_below_same 128 (peak_term (wave n2) first t) (peak_term (wave n2) second u)
      (λ n l. ap (λ s. times s (conjugate (wave n2 n))) (same n l)))

  energy_same : energy first t ≡ energy second u
  unfolding energy
  energy_same = total_below_same 128 (energy_term first t) (energy_term second u) (λ n l. ap square (same n l))

  pub ratio_same : (n2 : ℕ) → ratio_at first n2 t ≡ ratio_at second n2 u
  unfolding ratio_at
  ratio_same n2 = ap₂ (λ c e. ratio_of c e (wave_power n2)) (peak_same n2) energy_same

pub window_at : (recording : List Sample) (start k : ℕ) → k < 57600 → sample_at (window_of recording start) k ≡ sample_at recording (start + k)
unfolding window_of
window_at recording start k l = ap value_of (values_below_at (λ i. slice_index_or recording (start + i) silence) 57600 k silence l)

-- the ratio in a window is that of the recording
pub window_ratio : (recording : List Sample) (start n2 t : ℕ) → t + 128 ≤ 57600 → ratio_at (window_of recording start) n2 t ≡ ratio_at recording n2 (t + start)
window_ratio recording start n2 t inside =
    ratio_same (window_of recording start) recording t (t + start)
    (λ n l. window_at recording start (t + n) (omega (arith, inside, l)) ∙ ap (sample_at recording) (let e : start + (t + n) ≡ t + start + n = omega arith in e)) n2
