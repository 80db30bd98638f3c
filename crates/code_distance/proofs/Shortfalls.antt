-- Soft values that fall short of a level by less than 15 times the level in all determine the word.
use Rattle.std.proofs.Common.{◌≡◌, ℕ, zero, suc, ◌+◌, ◌*◌, ◌<◌, ◌≤◌, inl, inr, arith, refl, ap, sym, ◌∙◌, subst, Bool, true, false, List, length, nat_abs, ℤ, pos, negsuc}
use Rattle.std.proofs.lemmas.Bool.{cases_lt}
use Rattle.finite.specs.Sums.{total_below}
use Rattle.finite.specs.Tables.{sum_at}
use Rattle.cs_bits.specs.Signs.{disagreement}
use Rattle.conv_code.specs.Code.{tapped_bit, taps_0, taps_1, taps_2}
use Rattle.conv_code.specs.Cost.{cost_at, word_cost}
use Rattle.trellis.specs.Words.{IsBefore}
use Rattle.trellis.proofs.Words.{number-before}
use Rattle.code_distance.specs.Distance.{differ, differ_at, distance, shortfall, shortfall_at, word_shortfall, OthersCostMore, OutweighingIsLeast, strength, OutweighingIsClear}
use Rattle.code_distance.proofs.Linear.{is_fifteen_apart}

-- ---- one value

one : (level : ℕ) (z : ℤ) (a b : Bool) → disagreement z a + level * differ b a ≤ disagreement z b + shortfall level z a
one level z true true = omega arith
one level z false false = omega arith
one level z true false = omega arith
one level z false true = omega arith

strong : (level : ℕ) (z : ℤ) (b : Bool) → level + disagreement z b ≤ nat_abs z + shortfall level z b
strong level (pos n) true = omega arith
strong level (pos n) false = omega arith
strong level (negsuc n) true = omega arith
strong level (negsuc n) false = omega arith

within : (level : ℕ) (z : ℤ) (b : Bool) → disagreement z b ≤ shortfall level z b
within level (pos n) true = omega arith
within level (pos n) false = omega arith
within level (negsuc n) true = omega arith
within level (negsuc n) false = omega arith

-- ---- sums over all positions

added : (n level : ℕ) (a d b s : ℕ → ℕ) → ((k : ℕ) → k < n → a k + level * d k ≤ b k + s k) → total_below n a + level * total_below n d ≤ total_below n b + total_below n s
unfolding total_below
added zero level a d b s h = omega arith
added (suc n) level a d b s h =
    let before = added n level a d b s (λ k below. h k (omega arith)) in
    let here = h n (omega arith) in
    join (total_below n a) (a n) (total_below n d) (d n) (total_below n b) (b n) (total_below n s) (s n) before here
  where
    join : (a a' d d' b b' s s' : ℕ) → a + level * d ≤ b + s → a' + level * d' ≤ b' + s' → a + a' + level * (d + d') ≤ b + b' + (s + s')
    join a a' d d' b b' s s' h h' = let e : level * (d + d') ≡ level * d + level * d' = grind arith in omega (arith, h, h', e)

-- ---- words

module _ (values : List (List ℤ)) (word other : List Bool) (level : ℕ) where
  three : (k : ℕ) → cost_at values word k + level * differ_at other word k ≤ cost_at values other k + shortfall_at level values word k
  three k =
      let h0 = one level (sum_at values k 0) (tapped_bit taps_0 word k) (tapped_bit taps_0 other k) in
      let h1 = one level (sum_at values k 1) (tapped_bit taps_1 word k) (tapped_bit taps_1 other k) in
      let h2 = one level (sum_at values k 2) (tapped_bit taps_2 word k) (tapped_bit taps_2 other k) in
      join _ _ _ _ _ _ _ _ _ _ _ _ h0 h1 h2
    where
      join : (a b c d e f g h i j k l : ℕ) → a + level * d ≤ g + j → b + level * e ≤ h + k → c + level * f ≤ i + l → a + b + c + level * (d + e + f) ≤ g + h + i + (j + k + l)
      join a b c d e f g h i j k l p q r = let s : level * (d + e + f) ≡ level * d + level * e + level * f = grind arith in omega (arith, p, q, r, s)

pub others_cost_more : OthersCostMore
unfolding word_cost word_shortfall distance
others_cost_more values word other level long size size_too apart =
    let far = is_fifteen_apart other word (omega (arith, long, size_too)) (size_too ∙ sym size) apart in
    let all = added (length values) level (cost_at values word) (differ_at other word) (cost_at values other) (shortfall_at level values word) (λ k below. three values word other level k) in
    let far' = rw size_too at far in
    reach level _ _ _ _ far' all
  where
    reach : (level a b c d : ℕ) → 15 ≤ d → a + level * d ≤ b + c → a + 15 * level ≤ b + c
    reach level a b c d far all = let m : level * 15 ≤ level * d = grind arith in omega (arith, all, m)

not_before_itself : (word : List Bool) → IsBefore word word → ⊥
not_before_itself word h = let n = number-before word word refl h in absurd (omega (arith, n))

pub outweighing_is_least : OutweighingIsLeast
outweighing_is_least values word long size outweigh = record {
  size = size;
  least = λ other size_too. least other size_too;
  first = λ other size_too before. more other size_too (λ same. not_before_itself word (subst (λ (w : List Bool). IsBefore w word) same before));
}
  where
    more : (other : List Bool) → length other ≡ length values → (other ≡ word → ⊥) → word_cost values word < word_cost values other
    more other size_too apart = let h = others_cost_more values word other outweigh.level long size size_too apart in let s = outweigh.short in omega (arith, h, s)

    least : (other : List Bool) → length other ≡ length values → word_cost values word ≤ word_cost values other
    least other size_too = elim (cases_lt (word_cost values other) (word_cost values word)) [
      | inl less ↦ let h = more other size_too (λ same. lower less (ap (word_cost values) same)) in omega (arith, h)
      | inr enough ↦ enough
    ]
      where
        lower : word_cost values other < word_cost values word → word_cost values other ≡ word_cost values word → ⊥
        lower l e = absurd (omega (arith, l, e))

-- ---- the quarter

clear_sum : (n level : ℕ) (c a s : ℕ → ℕ) → ((k : ℕ) → k < n → 3 * level + c k ≤ a k + s k) → ((k : ℕ) → k < n → c k ≤ s k) →
    (n * (3 * level) + total_below n c ≤ total_below n a + total_below n s) × (total_below n c ≤ total_below n s)
unfolding total_below
clear_sum zero level c a s h g = (omega arith, omega arith)
clear_sum (suc n) level c a s h g =
    let (before, few) = clear_sum n level c a s (λ k below. h k (omega arith)) (λ k below. g k (omega arith)) in
    let here = h n (omega arith) in
    let own = g n (omega arith) in
    (omega (arith, before, here), omega (arith, few, own))

pub outweighing_is_clear : OutweighingIsClear
unfolding word_cost word_shortfall strength
outweighing_is_clear values word long outweigh =
    let level : ℕ = outweigh.level in
    let (all, few) = clear_sum (length values) level (cost_at values word) (λ k. nat_abs (sum_at values k 0) + nat_abs (sum_at values k 1) + nat_abs (sum_at values k 2)) (shortfall_at level values word)
    (λ k below. three k) (λ k below. costs k) in
    quarter _ _ _ level (length values) long all few outweigh.short
  where
    three : (k : ℕ) → 3 * outweigh.level + cost_at values word k ≤ (nat_abs (sum_at values k 0) + nat_abs (sum_at values k 1) + nat_abs (sum_at values k 2)) + shortfall_at outweigh.level values word k
    three k =
        let h0 = strong outweigh.level (sum_at values k 0) (tapped_bit taps_0 word k) in
        let h1 = strong outweigh.level (sum_at values k 1) (tapped_bit taps_1 word k) in
        let h2 = strong outweigh.level (sum_at values k 2) (tapped_bit taps_2 word k) in
        omega (arith, h0, h1, h2)

    costs : (k : ℕ) → cost_at values word k ≤ shortfall_at outweigh.level values word k
    costs k =
        let h0 = within outweigh.level (sum_at values k 0) (tapped_bit taps_0 word k) in
        let h1 = within outweigh.level (sum_at values k 1) (tapped_bit taps_1 word k) in
        let h2 = within outweigh.level (sum_at values k 2) (tapped_bit taps_2 word k) in
        omega (arith, h0, h1, h2)

    quarter : (c a s level n : ℕ) → 22 ≤ n → n * (3 * level) + c ≤ a + s → c ≤ s → s < 15 * level → (4 * c ≤ a) × (0 < a)
    quarter c a s level n long all few short =
        let m : 22 * (3 * level) ≤ n * (3 * level) = grind arith in
        (omega (arith, all, few, short, m), omega (arith, all, few, short, m))
