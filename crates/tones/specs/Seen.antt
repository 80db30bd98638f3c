-- OFDM demodulation at 1.92 * 2^rate million samples per second, for cells of any bandwidth. (own; the useful part of
-- TS 36.211 section 6.12 inverted, in integers)
use Rattle.std.specs.Prelude.{ℕ, ◌+◌, ◌-◌, ◌*◌, ◌^◌, List, nat_lt, if◌then◌else◌}
use Rattle.finite.specs.Lists.{values_below}
use Rattle.cs_num.specs.declared.Cpx.{Cpx}
use Rattle.cs_num.specs.Complex.{times, conjugate, sample_at}
use Rattle.cs_num.specs.Rounding.{rounded}
use Rattle.cs_num.specs.Sums.{complex_sum_below}
use Rattle.lte_types.specs.Numerology.{normal, useful_start}
use Rattle.halving.specs.Wide.{Wide}
use Rattle.wide_cell.specs.Cell.{points, subcarriers}
use Rattle.tones.specs.Tones.{tone_at}

-- subcarrier k's frequency, from -6 * blocks to 6 * blocks without 0, modulo the number of points
abbrev pub frequency : ℕ → ℕ → ℕ → ℕ
frequency rate blocks k = if nat_lt k (6 * blocks) then points rate + k - 6 * blocks else k + 1 - 6 * blocks

-- the contribution of sample i, counted from sample start, to a frequency
abbrev pub seen_term : Wide → ℕ → ℕ → ℕ → Cpx
seen_term wide start f i = times (sample_at wide.samples (start + i)) (conjugate (tone_at wide.rate (f * i)))

-- the value received at subcarrier k for the symbol whose useful part begins at sample start
unfoldable pub seen : Wide → ℕ → ℕ → ℕ → Cpx
seen wide blocks start k =
    rounded (complex_sum_below (points wide.rate) (seen_term wide start (frequency wide.rate blocks k)))
    (16 + wide.rate)

-- the values received at all subcarriers for the symbol whose useful part begins at sample start
unfoldable pub seen_symbol : Wide → ℕ → ℕ → List Cpx
seen_symbol wide blocks start = values_below (subcarriers blocks) (seen wide blocks start)

-- the sample at which a symbol's useful part begins, for a frame that begins at sample `frame` once the recording has
-- been converted to 1.92 million samples per second
abbrev pub wide_start : ℕ → ℕ → ℕ → ℕ → ℕ
wide_start rate frame slot symbol = 2 ^ rate * useful_start normal frame slot symbol
