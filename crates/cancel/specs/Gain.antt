-- The gain of a known signal in samples: estimated by correlation, then improved by a search near the estimate. (own)
use Rattle.std.specs.Prelude.{◌≡◌, ℕ, zero, suc, ◌<◌, ◌≤◌, ◌⊎◌, max, ◌<ℤ◌, ◌≤ℤ◌}
use Rattle.cs_num.specs.declared.Cpx.{Cpx}
use Rattle.cs_num.specs.Complex.{minus, square, largest_part}
use Rattle.cs_num.specs.Rounding.{quotient}
use Rattle.cs_num.specs.Gain.{IsGain}
use Rattle.norms.specs.Magnitudes.{energy_below, correlation_below}
use Rattle.lte_types.specs.Numerology.{useful_length}

-- the gain estimate from 128 samples and a known signal: the correlation divided by the signal's energy
abbrev pub estimate : (ℕ → Cpx) → (ℕ → Cpx) → Cpx
estimate samples signal = quotient (correlation_below useful_length samples signal) (energy_below useful_length signal)

-- A candidate is a gain with a magnitude from 1 to 28 and a distance up to 2 from the estimate `middle`.
pub record IsCandidate (middle gain : Cpx) : Type 0 where
  pub range : IsGain gain
  pub near : square (minus gain middle) ≤ 4

-- the largest component magnitude among the `n` values `f 0` to `f (n - 1)`
unfoldable pub greatest_below : ℕ → (ℕ → Cpx) → ℕ
greatest_below zero f = 0
greatest_below (suc n) f = max (greatest_below n f) (largest_part (f n))

-- Gain `gain` is used before `other`, or equals `other`: its residual is smaller. For equal residuals, its real part is
-- lower, and for equal real parts its imaginary part is not higher.
abbrev pub GoesBefore : (Cpx → ℕ) → Cpx → Cpx → Type 0
GoesBefore greatest gain other = (greatest gain < greatest other)
    ⊎ ((greatest gain ≡ greatest other) × ((gain.re <ℤ other.re) ⊎ ((gain.re ≡ other.re) × (gain.im ≤ℤ other.im))))

-- The gain is the best candidate near `middle`. `greatest` gives the largest residual component for each gain.
pub record IsBest (greatest : Cpx → ℕ) (middle gain : Cpx) : Type 0 where
  pub candidate : IsCandidate middle gain
  pub first : (other : Cpx) → IsCandidate middle other → GoesBefore greatest gain other
