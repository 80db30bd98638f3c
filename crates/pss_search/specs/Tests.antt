-- Boolean tests for hits: each agrees with a definition in `Hits`. (own)
use Rattle.std.specs.Prelude.{ℕ, ◌+◌, ◌-◌, ◌*◌, List, Bool, nat_lt, nat_le, not, ◌==◌, ◌&&◌, ◌||◌}
use Rattle.cs_num.specs.declared.Sample.{Sample}
use Rattle.finite.specs.Tests.{any_below}
use Rattle.pss_search.specs.Correlation.{peak, energy, wave_power}

-- whether position `first` has a greater metric for the primary signal `n2` than position `second`, and both have
-- energy
abbrev pub is_above : List Sample → ℕ → ℕ → ℕ → Bool
is_above recording n2 first second = nat_lt 0 (energy recording first) && nat_lt 0 (energy recording second) &&
    nat_lt (peak recording n2 second * energy recording first) (peak recording n2 first * energy recording second)

-- whether positions `first` and `second` have equal metrics for the primary signal `n2`, and both have energy
abbrev pub is_level : List Sample → ℕ → ℕ → ℕ → Bool
is_level recording n2 first second = nat_lt 0 (energy recording first) && nat_lt 0 (energy recording second) &&
    (peak recording n2 second * energy recording first == peak recording n2 first * energy recording second)

-- whether position `u`, if at most 9 from `t`, rules out that `t` is a hit: `u` has a greater metric, or has an equal
-- metric and is earlier
unfoldable pub rules_out : List Sample → ℕ → ℕ → ℕ → Bool
rules_out recording n2 t u = is_above recording n2 u t || (nat_lt u t && is_level recording n2 u t)

-- whether some position at most 9 from t rules out that t is a hit
unfoldable pub is_ruled_out : List Sample → ℕ → ℕ → Bool
is_ruled_out recording n2 t = any_below 19 (λ d. rules_out recording n2 t (t - 9 + d))

-- whether `t`, a position in the search range, is a hit of the primary signal `n2`: it has energy, four times its peak
-- is at least its energy times the signal's power, and no position at most 9 away rules it out
unfoldable pub is_hit : List Sample → ℕ → ℕ → Bool
is_hit recording t n2 = nat_lt 0 (energy recording t) &&
    nat_le (energy recording t * wave_power n2) (4 * peak recording n2 t) && not (is_ruled_out recording n2 t)
