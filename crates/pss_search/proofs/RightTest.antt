-- The test for a hit and its definition agree.
use Rattle.std.proofs.Common.{◌≡◌, ℕ, ◌+◌, ◌-◌, ◌*◌, ◌<◌, ◌≤◌, arith, refl, Bool, true, false, List, nat_lt, nat_le}
use Rattle.std.specs.Prelude.{◌&&◌}
use Rattle.std.proofs.lemmas.Bool.Decides.{nat_tests}
use Rattle.std.proofs.lemmas.Bool.{lt-ltb, le-leb, ltb-true}
use Rattle.cs_num.specs.declared.Sample.{Sample}
use Rattle.finite.proofs.Tests.{any_below_all}
use Rattle.pss_search.specs.Correlation.{energy, peak, wave_power}
use Rattle.pss_search.specs.Tests.{is_above, is_level, rules_out, is_ruled_out, is_hit}
use Rattle.pss_search.specs.Hits.{IsAbove, IsLevel, IsHit}
use Rattle.pss_search.specs.Laws.{TestIsRight}
use Rattle.pss_search.proofs.Window.{hit_tells, near_free, or_false_left, or_false_right}

above_false : (recording : List Sample) (n2 u t : ℕ) → is_above recording n2 u t ≡ false → ¬ IsAbove recording n2 u t
above_false recording n2 u t e above = above_clash above.first_sounds above.second_sounds above.greater
  where
    above_clash : 0 < energy recording u → 0 < energy recording t → peak recording n2 t * energy recording u < peak recording n2 u * energy recording t → ⊥
    above_clash p q r = grind (arith, nat_tests)

level_false : (recording : List Sample) (n2 u t : ℕ) → is_level recording n2 u t ≡ false → ¬ IsLevel recording n2 u t
level_false recording n2 u t e level = level_clash level.first_sounds level.second_sounds level.equal
  where
    level_clash : 0 < energy recording u → 0 < energy recording t → peak recording n2 t * energy recording u ≡ peak recording n2 u * energy recording t → ⊥
    level_clash p q r = grind (arith, nat_tests)

above_true : (recording : List Sample) (n2 u t : ℕ) → is_above recording n2 u t ≡ true → IsAbove recording n2 u t
above_true recording n2 u t e = record { first_sounds = grind (arith, nat_tests); second_sounds = grind (arith, nat_tests); greater = grind (arith, nat_tests) }

level_true : (recording : List Sample) (n2 u t : ℕ) → is_level recording n2 u t ≡ true → IsLevel recording n2 u t
level_true recording n2 u t e = record { first_sounds = grind (arith, nat_tests); second_sounds = grind (arith, nat_tests); equal = grind (arith, nat_tests) }

to_hit : (recording : List Sample) (t n2 : ℕ) → 137 ≤ t → t ≤ 19336 → is_hit recording t n2 ≡ true → IsHit recording t n2
unfolding rules_out
to_hit recording t n2 first last e =
    let tells = hit_tells recording t n2 e in
    record {
      from_first = first;
      to_last = last;
      sounds = tells.sounds;
      clear = tells.clear;
      none_above = λ u a b. above_false recording n2 u t (or_false_left (is_above recording n2 u t) (nat_lt u t && is_level recording n2 u t) (near_free recording t n2 u tells.free (omega arith) (omega arith) (omega arith)));
      none_level_before = λ u a b. level_false recording n2 u t
          (let right = or_false_right (is_above recording n2 u t) (nat_lt u t && is_level recording n2 u t) (near_free recording t n2 u tells.free (omega arith) (omega arith) (omega arith)) in
          rw (lt-ltb u t a) at right);
    }

hit_from : (recording : List Sample) (t n2 : ℕ) → 0 < energy recording t → energy recording t * wave_power n2 ≤ 4 * peak recording n2 t → is_ruled_out recording n2 t ≡ false → is_hit recording t n2 ≡ true
unfolding is_hit
hit_from recording t n2 sounds clear free =
    let a : nat_lt 0 (energy recording t) ≡ true = lt-ltb 0 (energy recording t) sounds in
    let b : nat_le (energy recording t * wave_power n2) (4 * peak recording n2 t) ≡ true = le-leb (energy recording t * wave_power n2) (4 * peak recording n2 t) clear in
    rw (a, b, free) refl

and_false : (a b : Bool) → b ≡ false → (a && b) ≡ false
and_false true b e = e
and_false false b e = refl

harmless : (recording : List Sample) (t n2 u : ℕ) → IsHit recording t n2 → u ≤ t + 9 → t ≤ u + 9 →
    (a : Bool) → is_above recording n2 u t ≡ a → (b : Bool) → is_level recording n2 u t ≡ b → (c : Bool) → nat_lt u t ≡ c → rules_out recording n2 t u ≡ false
unfolding rules_out
harmless recording t n2 u h above below true e b f c d = absurd (h.none_above u above below (above_true recording n2 u t e))
harmless recording t n2 u h above below false e true f true d = absurd (h.none_level_before u (ltb-true u t d) below (level_true recording n2 u t f))
harmless recording t n2 u h above below false e true f false d = rw (e, d) refl
harmless recording t n2 u h above below false e false f c d = rw e (and_false (nat_lt u t) (is_level recording n2 u t) f)

from_hit : (recording : List Sample) (t n2 : ℕ) → IsHit recording t n2 → is_hit recording t n2 ≡ true
unfolding is_ruled_out
from_hit recording t n2 h = hit_from recording t n2 h.sounds h.clear
    (any_below_all 19 (λ d. rules_out recording n2 t (t - 9 + d)) (λ d l. harmless recording t n2 (t - 9 + d) h (omega (arith, h.from_first)) (omega (arith, h.from_first))
    (is_above recording n2 (t - 9 + d) t) refl (is_level recording n2 (t - 9 + d) t) refl (nat_lt (t - 9 + d) t) refl))

pub right_test : TestIsRight
right_test recording t n2 first last = (to_hit recording t n2 first last, from_hit recording t n2)
