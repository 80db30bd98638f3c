-- A recording without its mean, corrected by a frequency offset. (own)
use Rattle.std.specs.Prelude.{ℕ, List, length, nat_abs, ℤ, pos, ◌*ℤ◌}
use Rattle.std.specs.Int.{int_rem_euclid}
use Rattle.finite.specs.Lists.{values_below}
use Rattle.cs_num.specs.declared.Cpx.{Cpx}
use Rattle.cs_num.specs.declared.Sample.{Sample}
use Rattle.cs_num.specs.Complex.{minus, times, conjugate, sample_at}
use Rattle.cs_num.specs.Rounding.{floor_div, rounded, quotient, nearest_sample}
use Rattle.cs_num.specs.Sums.{complex_sum_below}
use Rattle.fold128.specs.Tables.{w_at}

-- the sum of all samples
abbrev pub sum_of : List Sample → Cpx
sum_of recording = complex_sum_below (length recording) (sample_at recording)

-- the mean of all samples, each component rounded to nearest, halves up
unfoldable pub mean : List Sample → Cpx
mean recording = quotient (sum_of recording) (length recording)

-- the complex exponential W(z), with period 128, for any integer `z`
abbrev pub w_of : ℤ → Cpx
w_of z = w_at (nat_abs (int_rem_euclid z (pos 128)))

-- the phase for offset `m` at sample `i`, in 1/128 of a cycle; the phase advances by `m` / 128 per sample, a frequency
-- of `m` times 117.1875 Hz
abbrev pub angle : ℤ → ℕ → ℤ
angle m i = floor_div (m *ℤ pos i) 128

-- `value` minus `mean`, rotated back by the phase `angle` (in 1/128 of a cycle), rounded and clamped to 16 bits
unfoldable pub turned_back : Cpx → Cpx → ℤ → Sample
turned_back value mean angle = nearest_sample (rounded (times (minus value mean) (conjugate (w_of angle))) 14)

-- sample `i` of a recording corrected by offset `m`
unfoldable pub turned_at : List Sample → ℤ → ℕ → Sample
turned_at recording m i = turned_back (sample_at recording i) (mean recording) (angle m i)

-- a recording corrected by offset `m`, in steps of 117.1875 Hz
abbrev pub turned : List Sample → ℤ → List Sample
turned recording m = values_below (length recording) (turned_at recording m)
