-- Demodulation in the two steps of the code: DFT sums, then rounding.
use Rattle.std.specs.Prelude.{ℕ, List}
use Rattle.finite.specs.Lists.{values_below}
use Rattle.cs_num.specs.declared.Cpx.{Cpx}
use Rattle.cs_num.specs.Rounding.{rounded}
use Rattle.fold128.specs.Spectrum.{spectrum_at}
use Rattle.lte_types.specs.Numerology.{subcarriers}

-- the DFT sums over 128 samples at 72 subcarriers, divided by 2^12 and rounded
unfoldable pub seen_of : (ℕ → Cpx) → List Cpx
seen_of samples = values_below subcarriers (λ k. rounded (spectrum_at samples k) 12)

-- 72 DFT sums, divided by 2^12 and rounded
unfoldable pub rounded_values : (ℕ → Cpx) → List Cpx
rounded_values sums = values_below subcarriers (λ k. rounded (sums k) 12)
