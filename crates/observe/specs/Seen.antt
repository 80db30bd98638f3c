-- OFDM demodulation of one symbol. (own; the useful part of TS 36.211 section 6.12 inverted, in integers)
use Rattle.std.specs.Prelude.{ℕ, ◌+◌, List}
use Rattle.finite.specs.Lists.{values_below}
use Rattle.cs_num.specs.declared.Cpx.{Cpx}
use Rattle.cs_num.specs.declared.Sample.{Sample}
use Rattle.cs_num.specs.Rounding.{rounded}
use Rattle.fold128.specs.Spectrum.{spectrum_at}
use Rattle.cs_num.specs.Complex.{sample_at}
use Rattle.lte_types.specs.Numerology.{subcarriers}

-- the demodulated value at subcarrier k, for the symbol whose useful part begins at sample `start`: the DFT divided by
-- 2^12 and rounded
unfoldable pub seen : List Sample → ℕ → ℕ → Cpx
seen recording start k = rounded (spectrum_at (λ n. sample_at recording (start + n)) k) 12

-- the demodulated values at all 72 subcarriers, for the symbol whose useful part begins at sample `start`
unfoldable pub seen_symbol : List Sample → ℕ → List Cpx
seen_symbol recording start = values_below subcarriers (seen recording start)
