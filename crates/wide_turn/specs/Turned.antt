-- A wide recording without its mean, corrected by a frequency offset. (own)
use Rattle.std.specs.Prelude.{◌≡◌, ℕ, ◌*◌, ◌^◌, List, length, take, ℤ, pos, ◌*ℤ◌, Option}
use Rattle.finite.specs.Lists.{values_below}
use Rattle.cs_num.specs.declared.Sample.{Sample}
use Rattle.cs_num.specs.Complex.{sample_at}
use Rattle.cs_num.specs.Rounding.{floor_div}
use Rattle.halving.specs.Wide.{Wide, most_kept, narrowed}
use Rattle.frequency_offset.specs.declared.estimation.OffsetEstimate.{OffsetEstimate}
use Rattle.frequency_offset.specs.Turned.{mean, turned_back}
use Rattle.frequency_offset.specs.Estimation.{IsEstimated, turn_of}

-- the phase for offset `m` at sample `i`, in 1/128 of a cycle, at 1.92 * 2^rate million samples per second; a frequency
-- of `m` times 117.1875 Hz at every rate
abbrev pub angle : ℕ → ℤ → ℕ → ℤ
angle rate m i = floor_div (m *ℤ pos i) (128 * 2 ^ rate)

-- sample `i` of a wide recording corrected by offset `m`
unfoldable pub turned_at : ℕ → List Sample → ℤ → ℕ → Sample
turned_at rate samples m i = turned_back (sample_at samples i) (mean samples) (angle rate m i)

-- a wide recording corrected by offset `m`, in steps of 117.1875 Hz
abbrev pub turned : ℕ → List Sample → ℤ → List Sample
turned rate samples m = values_below (length samples) (turned_at rate samples m)

-- the first 170 ms of a wide recording, from which its offset is estimated
abbrev pub front : ℕ → List Sample → Wide
front rate samples = record { samples = take (most_kept * 2 ^ rate) samples; rate = rate }

-- `applied` is the wide recording `samples`, corrected by the frequency offset that is estimated from its first 170 ms
-- at 1.92 million samples per second
pub record IsApplied (rate : ℕ) (samples applied : List Sample) : Type 0 where
  pub estimate : Option OffsetEstimate
  pub is_estimated : IsEstimated (narrowed (front rate samples)) estimate
  pub samples_are : applied ≡ turned rate samples (turn_of estimate)
