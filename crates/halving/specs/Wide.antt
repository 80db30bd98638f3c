-- Recordings at 1.92 * 2^rate million samples per second. (own)
use Rattle.std.specs.Prelude.{ℕ, ◌*◌, ◌^◌, ◌≤◌, List, length}
use Rattle.cs_num.specs.declared.Sample.{Sample}
use Rattle.lte_types.specs.Numerology.{least_samples, frame_length}
use Rattle.halving.specs.Halved.{halved_by}

-- a recording and its rate exponent: it has 1.92 * 2^rate million samples per second
pub record Wide : Type 0 where
  pub samples : List Sample
  pub rate : ℕ

-- the maximum rate exponent: 30.72 million samples per second
abbrev pub most_rate : ℕ
most_rate = 4

-- the number of samples at 1.92 million per second that a wide recording has at most: 17 frames
abbrev pub most_kept : ℕ
most_kept = 17 * frame_length

-- a wide recording is 30 ms to 170 ms long
pub record IsWide (wide : Wide) : Type 0 where
  pub rate : wide.rate ≤ most_rate
  pub least : least_samples * 2 ^ wide.rate ≤ length wide.samples
  pub most : length wide.samples ≤ most_kept * 2 ^ wide.rate

-- a wide recording at 1.92 million samples per second
abbrev pub narrowed : Wide → List Sample
narrowed wide = halved_by wide.rate wide.samples
