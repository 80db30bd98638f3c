-- Bounds on a peak.
use Rattle.std.proofs.Common.{ℕ, ◌+◌, ◌*◌, ◌^◌, ◌<◌, ◌≤◌, List, arith}
use Rattle.std.proofs.lemmas.Nat.{mul-le}
use Rattle.cs_num.specs.declared.Sample.{Sample}
use Rattle.cs_num.specs.Complex.{sample_at}
use Rattle.norms.proofs.Cauchy.{cauchy}
use Rattle.pss_search.specs.Correlation.{wave, peak, energy, wave_power}
use Rattle.pss_search.proofs.Symmetry.{power_range}

-- by Cauchy-Schwarz the peak is at most the energy times the signal's power
pub peak_within : (recording : List Sample) (n2 t : ℕ) → peak recording n2 t ≤ energy recording t * wave_power n2
unfolding peak energy wave_power
peak_within recording n2 t = cauchy 128 (λ n. sample_at recording (t + n)) (wave n2)

-- a peak is bounded if the energy is
pub small_peak : (recording : List Sample) (n2 t : ℕ) → n2 < 3 → energy recording t ≤ 2 ^ 38 → peak recording n2 t ≤ 2 ^ 59
small_peak recording n2 t known small =
    let part = peak_within recording n2 t in
    let whole = mul-le (energy recording t) (wave_power n2) (2 ^ 38) 2001665 small (power_range n2 known).1 in
    omega (arith, part, whole)
