-- Correlation with a primary signal, from dot products of real and imaginary parts. (own)
use Rattle.std.specs.Prelude.{◌≡◌, ℕ, zero, suc, ◌+◌, List, ℤ, pos, ◌+ℤ◌, ◌-ℤ◌, ◌*ℤ◌, slice_index_or}
use Rattle.finite.specs.Sums.{sum_below}
use Rattle.finite.specs.Lists.{values_below}
use Rattle.cs_num.specs.declared.Cpx.{Cpx}
use Rattle.cs_num.specs.declared.Sample.{Sample}
use Rattle.cs_num.specs.Complex.{sample_at}
use Rattle.cs_num.specs.Sums.{complex_sum_below}
use Rattle.pss_search.specs.declared.products.Stretch.{Stretch}
use Rattle.pss_search.specs.declared.products.ProductSums.{ProductSums}
use Rattle.pss_search.specs.Correlation.{wave, peak_term}
use Rattle.lte_types.specs.Numerology.{useful_length}

-- `stretch` holds the real and imaginary parts of 256 samples of the recording, from its position `from`
pub record IsStretchOf (recording : List Sample) (stretch : Stretch) : Type 0 where
  pub re : stretch.re ≡ values_below 256 (λ n. (sample_at recording (stretch.from + n)).re)
  pub im : stretch.im ≡ values_below 256 (λ n. (sample_at recording (stretch.from + n)).im)

-- the real parts of the primary signal n2's 128 samples
abbrev pub wave_re : ℕ → List ℤ
wave_re n2 = values_below useful_length (λ n. (wave n2 n).re)

-- the imaginary parts of the primary signal n2's 128 samples
abbrev pub wave_im : ℕ → List ℤ
wave_im n2 = values_below useful_length (λ n. (wave n2 n).im)

-- the samples of primary signals 0 and 1 in four lists, by number: real and imaginary parts of signal 0, then of signal
-- 1
abbrev pub wave_part : ℕ → List ℤ
wave_part zero = wave_re 0
wave_part (suc zero) = wave_im 0
wave_part (suc (suc zero)) = wave_re 1
wave_part (suc (suc (suc part))) = wave_im 1

-- product n of a dot product: value o + n times value n of `signal`
abbrev pub product_at : List ℤ → ℕ → List ℤ → ℕ → ℤ
product_at values o signal n = slice_index_or values (o + n) (pos 0) *ℤ slice_index_or signal n (pos 0)

-- the dot product of 128 values from index o with `signal`
unfoldable pub dot_of : List ℤ → ℕ → List ℤ → ℤ
dot_of values o signal = sum_below useful_length (product_at values o signal)

-- the four dot products of 128 samples' real and imaginary parts, from index o of a stretch, with a signal's real and
-- imaginary parts `re` and `im`
abbrev pub products_of : Stretch → ℕ → List ℤ → List ℤ → ProductSums
products_of stretch o re im = record {
  re_re = dot_of stretch.re o re;
  im_im = dot_of stretch.im o im;
  im_re = dot_of stretch.im o re;
  re_im = dot_of stretch.re o im;
}

-- the correlation with a signal, the sum of samples times the signal's conjugate, from the four dot products
abbrev pub with_conjugate_of : ProductSums → Cpx
with_conjugate_of p = record { re = p.re_re +ℤ p.im_im; im = p.im_re -ℤ p.re_im }

-- the sum of samples times the signal itself, which is the correlation with its conjugate, from the four dot products
abbrev pub with_signal_of : ProductSums → Cpx
with_signal_of p = record { re = p.re_re -ℤ p.im_im; im = p.im_re +ℤ p.re_im }

-- the correlation with the primary signal n2 at position t; its squared magnitude is the peak
abbrev pub correlation_at : List Sample → ℕ → ℕ → Cpx
correlation_at recording t n2 = complex_sum_below useful_length (peak_term (wave n2) recording t)

-- the correlations with the three primary signals at position t; their squared magnitudes are the peaks
abbrev pub correlations_at : List Sample → ℕ → List Cpx
correlations_at recording t = values_below 3 (correlation_at recording t)
