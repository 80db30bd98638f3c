-- The sample at which a primary signal is strongest, among the samples whose metrics decide on hits. (own)
use Rattle.std.specs.Prelude.{◌≡◌, ℕ, ◌*◌, ◌/◌, nat_eq, if◌then◌else◌, List}
use Rattle.cs_num.specs.declared.Sample.{Sample}
use Rattle.pss_search.specs.Correlation.{energy, peak, wave_power}
use Rattle.pss_search.specs.Strongest.{IsStrongest}
use Rattle.reasons.specs.declared.reason.StrongestPlace.{StrongestPlace}

-- the fraction of the energy that the primary signal n2 explains, peak / (energy * signal power), in thousandths,
-- rounded down; 0 without energy
abbrev pub thousandths : ℕ → ℕ → ℕ → ℕ
thousandths peak energy n2 = if nat_eq energy 0 then 0 else 1000 * peak / (energy * wave_power n2)

-- `place` is the first sample at which the PSS `n2` is strongest, with the energy fraction that the PSS explains, in
-- thousandths
pub record IsStrongestPlace (recording : List Sample) (n2 : ℕ) (place : StrongestPlace) : Type 0 where
  pub strongest : IsStrongest recording n2 place.t
  pub ratio : place.ratio ≡ thousandths (peak recording n2 place.t) (energy recording place.t) n2
