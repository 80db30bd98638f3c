-- Half-frames are complete, and ratios are below 1.
use Rattle.std.proofs.Common.{ℕ, ◌+◌, ◌*◌, ◌/◌, ◌<◌, ◌≤◌, List, arith}
use Rattle.std.proofs.lemmas.Nat.{div_below}
use Rattle.finite.proofs.Sums.{total_below-within}
use Rattle.cs_num.specs.declared.Sample.{Sample}
use Rattle.pss_search.specs.Correlation.{peak, energy, wave_power}
use Rattle.pss_search.proofs.Peaks.{peak_within}
use Rattle.accumulated_pss.specs.Sums.{one, ratio_of, ratio_at, ratio, accumulated}
use Rattle.accumulated_pss.specs.Laws.{HalfFramesAreComplete, RatiosAreBelowOne}

pub half_frames_are_complete : HalfFramesAreComplete
half_frames_are_complete count half = (λ l. omega (arith, l), λ l. omega (arith, l))

-- a peak that is at most the product of energy and power has a ratio below 1
pub small_ratio : (peak energy power : ℕ) → peak ≤ energy * power → ratio_of peak energy power < one
small_ratio peak energy power within = by (energy * power) within
  where
    by : (product : ℕ) → peak ≤ product → peak / (product / 16777216 + 1) < 16777216
    by product le =
        let unit : product < 16777216 * (product / 16777216 + 1) = omega arith in
        div_below peak (product / 16777216 + 1) 16777216 (omega arith) (omega (arith, unit, le))

pub ratios_are_below_one : RatiosAreBelowOne
unfolding ratio_at
ratios_are_below_one recording n2 t = small_ratio (peak recording n2 t) (energy recording t) (wave_power n2) (peak_within recording n2 t)

-- a sum over half-frames is below their number
pub accumulated-below : (recording : List Sample) (halves n2 t : ℕ) → accumulated recording halves n2 t ≤ halves * 16777215
accumulated-below recording halves n2 t =
    total_below-within halves 16777215 (ratio recording n2 t)
    (λ half l. let below = ratios_are_below_one recording n2 (t + 9600 * half) in omega (arith, below))

pub accumulated-within : (recording : List Sample) (halves n2 t : ℕ) → accumulated recording halves n2 t ≤ halves * one
accumulated-within recording halves n2 t = let below = accumulated-below recording halves n2 t in omega (arith, below)
