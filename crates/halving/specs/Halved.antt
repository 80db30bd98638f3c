-- Halving the sample rate of a recording: a half-band low-pass filter with 15 taps, of whose output every second
-- sample is kept. (own)
use Rattle.std.specs.Prelude.{ℕ, zero, suc, ◌+◌, ◌-◌, ◌*◌, ◌/◌, List, [], ◌∷◌, length, slice_index_or, ℤ, pos, negsuc, nat_lt, if◌then◌else◌}
use Rattle.finite.specs.Lists.{values_below}
use Rattle.cs_num.specs.declared.Cpx.{Cpx}
use Rattle.cs_num.specs.declared.Sample.{Sample}
use Rattle.cs_num.specs.Complex.{nothing, scaled, sample_at}
use Rattle.cs_num.specs.Rounding.{rounded, nearest_sample}
use Rattle.cs_num.specs.Sums.{complex_sum_below}

-- the filter's taps, scaled by 4,096
unfoldable pub taps : List ℤ
taps =
    negsuc 20 ∷ pos 0 ∷ pos 97 ∷ pos 0 ∷ negsuc 310 ∷ pos 0 ∷ pos 1257 ∷ pos 2052 ∷ pos 1257 ∷ pos 0 ∷ negsuc 310 ∷
    pos 0 ∷ pos 97 ∷ pos 0 ∷ negsuc 20 ∷ []

-- sample i - 7 of a recording, and 0 before its first sample and past its last
abbrev pub delayed : List Sample → ℕ → Cpx
delayed samples i = if nat_lt i 7 then nothing else sample_at samples (i - 7)

-- tap t's contribution to output sample i, whose middle tap is at sample 2i of the recording
abbrev pub tap_term : List Sample → ℕ → ℕ → Cpx
tap_term samples i t = scaled (slice_index_or taps t (pos 0)) (delayed samples (2 * i + t))

-- output sample i: the filtered sum, rounded and clamped to 16 bits
unfoldable pub halved_at : List Sample → ℕ → Sample
halved_at samples i = nearest_sample (rounded (complex_sum_below 15 (tap_term samples i)) 12)

-- a recording at half its sample rate
unfoldable pub halved : List Sample → List Sample
halved samples = values_below (length samples / 2) (halved_at samples)

-- a recording halved n times
unfoldable pub halved_by : ℕ → List Sample → List Sample
halved_by zero samples = samples
halved_by (suc n) samples = halved (halved_by n samples)
