-- Whether a position within 9 rules another out; two hits with one root are at least ten positions apart.
use Rattle.std.proofs.Common.{◌≡◌, ℕ, ◌+◌, ◌-◌, ◌*◌, ◌<◌, ◌≤◌, arith, refl, ap, sym, ◌∙◌, Bool, true, false, List, nat_lt}
use Rattle.std.specs.Prelude.{◌&&◌, ◌||◌, ◌==◌}
use Rattle.std.proofs.lemmas.Bool.Decides.{nat_tests}
use Rattle.std.proofs.lemmas.Bool.{ltb-true, ltb-false, lt-ltb}
use Rattle.std.proofs.Math.Bool.{true≢false}
use Rattle.finite.proofs.Tests.{any_below_none}
use Rattle.cs_num.specs.declared.Sample.{Sample}
use Rattle.pss_search.specs.Correlation.{energy, peak, wave_power}
use Rattle.pss_search.specs.Tests.{is_above, is_level, rules_out, is_ruled_out, is_hit}

-- two ratios of which neither is greater are equal, so these tests do not all hold
clash : (first_energy first_peak second_energy second_peak : ℕ) → 0 < first_energy → 0 < second_energy →
    (nat_lt 0 second_energy && nat_lt 0 first_energy && nat_lt (first_peak * second_energy) (second_peak * first_energy)) ≡ false →
    (nat_lt 0 first_energy && nat_lt 0 second_energy && nat_lt (second_peak * first_energy) (first_peak * second_energy)) ≡ false →
    (nat_lt 0 first_energy && nat_lt 0 second_energy && (second_peak * first_energy == first_peak * second_energy)) ≡ false → ⊥
clash e p f q he hf a b c = grind (arith, nat_tests)

pub or_false_left : (a b : Bool) → (a || b) ≡ false → a ≡ false
or_false_left true b e = e
or_false_left false b e = refl

pub or_false_right : (a b : Bool) → (a || b) ≡ false → b ≡ false
or_false_right true b e = absurd (true≢false e)
or_false_right false b e = e

-- what a hit's tests imply
pub record Tells (recording : List Sample) (t n2 : ℕ) : Type 0 where
  pub sounds : 0 < energy recording t
  pub clear : energy recording t * wave_power n2 ≤ 4 * peak recording n2 t
  pub free : is_ruled_out recording n2 t ≡ false

pub hit_tells : (recording : List Sample) (t n2 : ℕ) → is_hit recording t n2 ≡ true → Tells recording t n2
unfolding is_hit
hit_tells recording t n2 e = record { sounds = grind (arith, nat_tests); clear = grind (arith, nat_tests); free = grind (arith, nat_tests) }

pub near_free : (recording : List Sample) (t n2 u : ℕ) → is_ruled_out recording n2 t ≡ false → u < t + 10 → t < u + 10 → 9 ≤ t → rules_out recording n2 t u ≡ false
unfolding is_ruled_out
near_free recording t n2 u free above below first =
    let e : t - 9 + (u + 9 - t) ≡ u = omega arith in
    let h = any_below_none 19 (u + 9 - t) (λ d. rules_out recording n2 t (t - 9 + d)) free (omega arith) in
    ap (rules_out recording n2 t) (sym e) ∙ h

-- two hits with one root are at least ten positions apart
pub hits_sparse : (recording : List Sample) (n2 t u : ℕ) → 9 ≤ t → t < u → is_hit recording t n2 ≡ true → is_hit recording u n2 ≡ true → t + 10 ≤ u
unfolding rules_out
hits_sparse recording n2 t u first below p q = settle (nat_lt u (t + 10)) refl
  where
    settle : (b : Bool) → nat_lt u (t + 10) ≡ b → t + 10 ≤ u
    settle false e = ltb-false u (t + 10) e
    settle true e =
        let near : u < t + 10 = ltb-true u (t + 10) e in
        let tp = hit_tells recording t n2 p in
        let tq = hit_tells recording u n2 q in
        let a = near_free recording t n2 u tp.free near (omega arith) first in
        let b = near_free recording u n2 t tq.free (omega arith) near (omega arith) in
        let b' = or_false_right (is_above recording n2 t u) (nat_lt t u && is_level recording n2 t u) b in
        absurd (clash (energy recording t) (peak recording n2 t) (energy recording u) (peak recording n2 u) tp.sounds tq.sounds
        (or_false_left (is_above recording n2 u t) (nat_lt u t && is_level recording n2 u t) a)
        (or_false_left (is_above recording n2 t u) (nat_lt t u && is_level recording n2 t u) b)
        (rw (lt-ltb t u below) at b'))
