-- A position at which no signal, even with the minimum power, has a large enough fraction of the energy, has no hit.
use Rattle.std.proofs.Common.{◌≡◌, ℕ, zero, suc, ◌+◌, ◌*◌, ◌<◌, arith, refl, ap, ◌∙◌, Bool, true, false, List, [], ◌++◌, append-nil}
use Rattle.std.proofs.lemmas.Nat.{mul-le}
use Rattle.cs_num.specs.declared.Sample.{Sample}
use Rattle.lte_types.specs.declared.Hit.{Hit}
use Rattle.finite.specs.Lists.{joined_below}
use Rattle.finite.proofs.Lists.{joined_below_same}
use Rattle.pss_search.specs.Correlation.{energy, peak, wave_power}
use Rattle.pss_search.specs.Tests.{is_hit}
use Rattle.pss_search.specs.Hits.{hit_at, hits_at, hits_before}
use Rattle.pss_search.proofs.Symmetry.{power_high}
use Rattle.pss_search.proofs.Window.{hit_tells}
use Rattle.pss_search.proofs.Room.{hits_before_more}

-- the signal's fraction is too small
abbrev pub IsFaint : List Sample → ℕ → ℕ → Type 0
IsFaint recording t n2 = 4 * peak recording n2 t < energy recording t * 1990000

no_hit_of : (recording : List Sample) (t n2 : ℕ) → n2 < 3 → IsFaint recording t n2 → hit_at recording t n2 ≡ []
unfolding hit_at
no_hit_of recording t n2 known faint = settle (is_hit recording t n2) refl
  where
    settle : (b : Bool) → is_hit recording t n2 ≡ b → hit_at recording t n2 ≡ []
    settle false e = rw e refl
    settle true e =
        let tells = hit_tells recording t n2 e in
        let more = mul-le (energy recording t) 1990000 (energy recording t) (wave_power n2) (omega arith) (power_high n2 (omega (arith, known))) in
        absurd (omega (arith, faint, tells.clear, more))

pub no_hits : (recording : List Sample) (t : ℕ) → IsFaint recording t 0 → IsFaint recording t 1 → IsFaint recording t 2 → hits_at recording t ≡ []
unfolding hits_at joined_below
no_hits recording t first second third = joined_below_same {A = Hit} 3 (hit_at recording t) (λ _. []) each
  where
    each : (n2 : ℕ) → n2 < 3 → hit_at recording t n2 ≡ []
    each zero l = no_hit_of recording t 0 l first
    each (suc zero) l = no_hit_of recording t 1 l second
    each (suc (suc zero)) l = no_hit_of recording t 2 l third
    each (suc (suc (suc n2))) l = absurd (omega (arith, l))

-- a position without hits leaves the list unchanged
pub list_stays : (recording : List Sample) (i : ℕ) → hits_at recording (137 + i) ≡ [] → hits_before recording (i + 1) ≡ hits_before recording i
unfolding hits_at
list_stays recording i none = hits_before_more recording i ∙ ap (λ hits. hits_before recording i ++ hits) none ∙ append-nil (hits_before recording i)
