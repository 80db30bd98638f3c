-- Scores from lists, bounds on agreements, and the symbols that give a hit's scores.
use Rattle.std.proofs.Common.{◌≡◌, ◌≢◌, ℕ, zero, suc, ◌+◌, ◌-◌, ◌*◌, ◌/◌, ◌%◌, ◌^◌, ◌<◌, ◌≤◌, length, arith, refl, ap, ap₂, sym, ◌∙◌, List, Bool, ℤ, pos, ◌+ℤ◌, ◌*ℤ◌, slice_index_or}
use Rattle.std.proofs.Math.Path.{fun_ext}
use Rattle.std.proofs.lemmas.Int.{ints, unsigned_abs-mul}
use Rattle.std.proofs.lemmas.List.Elements.{All-get_or}
use Rattle.finite.specs.Sums.{sum_below}
use Rattle.std.specs.Prelude.{nat_abs}
use Rattle.finite.specs.Sizes.{AllWithin}
use Rattle.finite.proofs.Sums.{sum_below_same, sum_below-within, sum_below_more}
use Rattle.finite.specs.Lists.{values_below}
use Rattle.finite.proofs.Lists.{values_below_at}
use Rattle.cs_num.specs.declared.Cpx.{Cpx}
use Rattle.cs_num.specs.declared.Sample.{Sample}
use Rattle.cs_num.specs.Complex.{IsWithin, nothing, times, conjugate, value_at}
use Rattle.cs_num.proofs.Complex.{times-within, conjugate-within}
use Rattle.lte_types.specs.declared.frame.Half.{Half}
use Rattle.lte_types.specs.declared.hit.Hit.{Hit}
use Rattle.sync_seq.specs.Secondary.{S, C, Z, period_bits, sign_at, even_shift, odd_shift, shifted_value, sss_at}
use Rattle.sync_seq.proofs.SecondaryValues.{shifted_even, shifted_odd, shifted_value-size}
use Rattle.observe.specs.Seen.{seen, seen_symbol}
use Rattle.sss_detect.specs.Scores.{agreement, score}
use Rattle.sss_detect.specs.Steps.{agreements_of, places_sum, score_by}
use Rattle.lte_types.specs.declared.numerology.Prefix.{Prefix}
use Rattle.lte_types.specs.Numerology.{symbol_step}
use Rattle.sss_detect.specs.Identity.{prefix_scores}

-- a sum over even and odd indices
by_twos : (n : ℕ) (f : ℕ → ℤ) → sum_below (2 * n) f ≡ sum_below n (λ i. f (2 * i + 0)) +ℤ sum_below n (λ i. f (2 * i + 1))
unfolding sum_below
by_twos zero f = refl
by_twos (suc n) f =
    let e : 2 * suc n ≡ suc (suc (2 * n)) = omega arith in
    let z : 2 * n + 0 ≡ 2 * n = omega arith in
    let o : 2 * n + 1 ≡ suc (2 * n) = omega arith in
    let before = by_twos n f in
    rw (e, z, o) (omega (arith, ints, before))

-- even values do not depend on the odd shift, and odd values depend on the even shift modulo 8
even_alone : (s c z : List Bool) (n2 even odd other i : ℕ) → shifted_value s c z n2 even odd (2 * i + 0) ≡ shifted_value s c z n2 even other (2 * i + 0)
even_alone s c z n2 even odd other i =
    let e : (2 * i + 0) % 2 ≡ 0 = omega arith in
    shifted_even s c z n2 even odd (2 * i + 0) e ∙ sym (shifted_even s c z n2 even other (2 * i + 0) e)

odd_alone : (s c z : List Bool) (n2 even odd i : ℕ) → shifted_value s c z n2 even odd (2 * i + 1) ≡ shifted_value s c z n2 (even % 8) odd (2 * i + 1)
odd_alone s c z n2 even odd i =
    let e : (2 * i + 1) % 2 ≢ 0 = omega arith in
    let m : even % 8 % 8 ≡ even % 8 = omega arith in
    shifted_odd s c z n2 even odd (2 * i + 1) e ∙ sym (shifted_odd s c z n2 (even % 8) odd (2 * i + 1) e ∙ ap (λ (r : ℕ). odd_value_at s c z n2 odd ((2 * i + 1) / 2) r) m)
  where
    odd_value_at : List Bool → List Bool → List Bool → ℕ → ℕ → ℕ → ℕ → ℤ
    odd_value_at s c z n2 odd n r = sign_at s (n + odd) *ℤ sign_at c (n + n2 + 3) *ℤ sign_at z (n + r)

-- both sums together are the score
pub sums_score : (agreements : List ℤ) (n2 n1 : ℕ) (half : Half) →
    places_sum agreements n2 (even_shift half n1) 0 0 31 +ℤ places_sum agreements n2 (even_shift half n1 % 8) (odd_shift half n1) 1 31 ≡ score_by agreements n2 n1 half
unfolding places_sum score_by sss_at
sums_score agreements n2 n1 half =
    let even : ℕ = even_shift half n1 in
    let odd : ℕ = odd_shift half n1 in
    let a : ℕ → ℤ = λ k. slice_index_or agreements k (pos 0) in
    let value : ℕ → ℕ → ℕ → ℤ = λ e o k. shifted_value (period_bits S) (period_bits C) (period_bits Z) n2 e o k in
    let evens = sum_below_same 31 (λ i. value even 0 (2 * i + 0) *ℤ a (2 * i + 0)) (λ i. value even odd (2 * i + 0) *ℤ a (2 * i + 0))
    (λ i l. ap (λ x. x *ℤ a (2 * i + 0)) (even_alone (period_bits S) (period_bits C) (period_bits Z) n2 even 0 odd i)) in
    let odds = sum_below_same 31 (λ i. value (even % 8) odd (2 * i + 1) *ℤ a (2 * i + 1)) (λ i. value even odd (2 * i + 1) *ℤ a (2 * i + 1))
    (λ i l. ap (λ x. x *ℤ a (2 * i + 1)) (sym (odd_alone (period_bits S) (period_bits C) (period_bits Z) n2 even odd i))) in
    ap₂ ◌+ℤ◌ evens odds ∙ sym (by_twos 31 (λ k. value even odd k *ℤ a k))

-- the list of agreements gives the scores
pub scores_are : (primary secondary : ℕ → Cpx) (n2 : ℕ) → score_by (agreements_of primary secondary n2) n2 ≡ score primary secondary n2
unfolding score_by score agreements_of
scores_are primary secondary n2 = fun_ext (λ n1. fun_ext (λ half. at n1 half))
  where
    at : (n1 : ℕ) (half : Half) → score_by (agreements_of primary secondary n2) n2 n1 half ≡ score primary secondary n2 n1 half
    at n1 half = sum_below_same 62
        (λ n. sss_at n1 n2 half n *ℤ slice_index_or (values_below 62 (agreement primary secondary n2)) n (pos 0))
        (λ n. sss_at n1 n2 half n *ℤ agreement primary secondary n2 n)
        (λ n l. ap (λ x. sss_at n1 n2 half n *ℤ x) (values_below_at (agreement primary secondary n2) 62 n (pos 0) l))

score_same : (p q r s : ℕ → Cpx) (n2 : ℕ) → ((k : ℕ) → k < 72 → p k ≡ q k) → ((k : ℕ) → k < 72 → r k ≡ s k) → score p r n2 ≡ score q s n2
unfolding score
score_same p q r s n2 h g = fun_ext (λ n1. fun_ext (λ half. at n1 half))
  where
    agree : (n : ℕ) → n < 62 → agreement p r n2 n ≡ agreement q s n2 n
    agree n l =
        let a = h (n + 5) (omega arith) in
        let b = g (n + 5) (omega arith) in
        rw (a, b) refl

    at : (n1 : ℕ) (half : Half) → score p r n2 n1 half ≡ score q s n2 n1 half
    at n1 half = sum_below_same 62
        (λ n. sss_at n1 n2 half n *ℤ agreement p r n2 n) (λ n. sss_at n1 n2 half n *ℤ agreement q s n2 n)
        (λ n l. ap (λ x. sss_at n1 n2 half n *ℤ x) (agree n l))

-- demodulated symbols as lists give a hit's scores
pub scores_of_hit : (prefix : Prefix) (recording : List Sample) (hit : Hit) →
    score (value_at (seen_symbol recording hit.t)) (value_at (seen_symbol recording (hit.t - symbol_step prefix))) hit.n2 ≡ prefix_scores prefix recording hit
unfolding seen_symbol
scores_of_hit prefix recording hit = score_same
    (value_at (values_below 72 (seen recording hit.t))) (seen recording hit.t)
    (value_at (values_below 72 (seen recording (hit.t - symbol_step prefix)))) (seen recording (hit.t - symbol_step prefix)) hit.n2
    (λ k l. values_below_at (seen recording hit.t) 72 k nothing l)
    (λ k l. values_below_at (seen recording (hit.t - symbol_step prefix)) 72 k nothing l)

-- ---- bounds

pub places_sum_more : (agreements : List ℤ) (n2 even odd first n : ℕ) →
    places_sum agreements n2 even odd first (n + 1)
    ≡ places_sum agreements n2 even odd first n
    +ℤ shifted_value (period_bits S) (period_bits C) (period_bits Z) n2 even odd (2 * n + first) *ℤ slice_index_or agreements (2 * n + first) (pos 0)
unfolding places_sum
places_sum_more agreements n2 even odd first n =
    sum_below_more n (λ i. shifted_value (period_bits S) (period_bits C) (period_bits Z) n2 even odd (2 * i + first) *ℤ slice_index_or agreements (2 * i + first) (pos 0))

pub places_sum-size : (agreements : List ℤ) (n2 even odd first n : ℕ) → AllWithin (2 ^ 59) agreements → length agreements ≡ 62 → first < 2 → n ≤ 31 →
    nat_abs (places_sum agreements n2 even odd first n) ≤ n * 2 ^ 59
unfolding places_sum
places_sum-size agreements n2 even odd first n small long one few =
    sum_below-within n (2 ^ 59) (λ i. shifted_value (period_bits S) (period_bits C) (period_bits Z) n2 even odd (2 * i + first) *ℤ slice_index_or agreements (2 * i + first) (pos 0)) (λ i below.
    let sign = shifted_value-size (period_bits S) (period_bits C) (period_bits Z) n2 even odd (2 * i + first) in
    let less = All-get_or (λ x. nat_abs x ≤ 2 ^ 59) agreements (2 * i + first) (pos 0) (omega (arith, below, few, one, long)) small in
    rw (unsigned_abs-mul (shifted_value (period_bits S) (period_bits C) (period_bits Z) n2 even odd (2 * i + first)) (slice_index_or agreements (2 * i + first) (pos 0)), sign) (omega (arith, less)))

pub agreement-size : (primary secondary value : Cpx) → IsWithin 33554432 primary → IsWithin 33554432 secondary → IsWithin 127 value →
    IsWithin (2 ^ 59) (times secondary (conjugate (times primary (conjugate value))))
agreement-size primary secondary value p s v =
    let a = times-within primary (conjugate value) 33554432 127 4261412864 p (conjugate-within value 127 v) (omega arith) in
    let b = conjugate-within (times primary (conjugate value)) 8522825728 a in
    let c = times-within secondary (conjugate (times primary (conjugate value))) 33554432 8522825728 285978576338026496 s b (omega arith) in
    record { re = omega (arith, c.re); im = omega (arith, c.im) }
