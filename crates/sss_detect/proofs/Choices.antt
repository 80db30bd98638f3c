-- The best pair is the first maximum.
use Rattle.std.proofs.Common.{◌≡◌, ℕ, zero, suc, ◌-◌, ◌<◌, ◌≤◌, ◌⊎◌, inl, inr, arith, refl, ap, sym, subst, ◌∙◌, Bool, true, false, ℤ, ◌<ℤ◌, ◌≤ℤ◌, int_lt}
use Rattle.std.specs.Prelude.{if◌then◌else◌}
use Rattle.std.proofs.lemmas.Int.{ints}
use Rattle.finite.proofs.Integers.{lt-le, lt-not_le}
use Rattle.lte_types.specs.declared.frame.Half.{Half}
use Rattle.lte_types.specs.declared.frame.Half.TheVariants.{Zero, Five}
use Rattle.sss_detect.specs.declared.choose.GroupScore.{GroupScore}
use Rattle.sss_detect.specs.Identity.{IsBefore, IsBest, first_greatest, best_group, best_pair}
use Rattle.sss_detect.specs.Laws.{BestPairIsBest, OnlyOneIsBest}

pub less : (a b : ℤ) → int_lt a b ≡ true → a <ℤ b
less a b e = grind (arith, ints)

pub not_less : (a b : ℤ) → int_lt a b ≡ false → b ≤ℤ a
not_less a b e = grind (arith, ints)

no_more : (a b c : ℤ) → a ≤ℤ b → b ≤ℤ c → a ≤ℤ c
no_more a b c p q = omega (arith, ints)

pub under : (a b c : ℤ) → a ≤ℤ b → b <ℤ c → a <ℤ c
under a b c p q = omega (arith, ints)

below : (a b c : ℤ) → a <ℤ b → b ≤ℤ c → a <ℤ c
below a b c p q = omega (arith, ints)

pub equal-le : (a : ℤ) → a ≤ℤ a
equal-le a = omega (arith, ints)

before_or_last : (k n : ℕ) → k ≤ suc n → (k ≤ n) ⊎ (k ≡ suc n)
before_or_last k n l = grind arith

-- ---- the first maximum in a row

pub first_greatest-le : (f : ℕ → ℤ) (n : ℕ) → first_greatest f n ≤ n
unfolding first_greatest
first_greatest-le f zero = omega arith
first_greatest-le f (suc n) = settle (int_lt (f (first_greatest f n)) (f (suc n))) (first_greatest-le f n)
  where
    settle : (b : Bool) → first_greatest f n ≤ n → (if b then suc n else first_greatest f n) ≤ suc n
    settle true before = omega arith
    settle false before = omega arith

pub first_greatest_is : (f : ℕ → ℤ) (n k : ℕ) → k ≤ n → f k ≤ℤ f (first_greatest f n)
unfolding first_greatest
first_greatest_is f zero k l = let e : k ≡ 0 = omega arith in subst (λ i. f i ≤ℤ f 0) (sym e) (equal-le (f 0))
first_greatest_is f (suc n) k l = settle (int_lt (f (first_greatest f n)) (f (suc n))) refl (before_or_last k n l) (λ p. first_greatest_is f n k p)
  where
    settle : (b : Bool) → int_lt (f (first_greatest f n)) (f (suc n)) ≡ b → (k ≤ n) ⊎ (k ≡ suc n) → (k ≤ n → f k ≤ℤ f (first_greatest f n)) →
        f k ≤ℤ f (if b then suc n else first_greatest f n)
    settle true e (inl p) before = lt-le _ _ (under _ _ _ (before p) (less _ _ e))
    settle true e (inr p) before = subst (λ i. f i ≤ℤ f (suc n)) (sym p) (equal-le (f (suc n)))
    settle false e (inl p) before = before p
    settle false e (inr p) before = subst (λ i. f i ≤ℤ f (first_greatest f n)) (sym p) (not_less _ _ e)

pub first_greatest_first : (f : ℕ → ℤ) (n k : ℕ) → k < first_greatest f n → f k <ℤ f (first_greatest f n)
unfolding first_greatest
first_greatest_first f zero k l = absurd (omega arith)
first_greatest_first f (suc n) k l = settle (int_lt (f (first_greatest f n)) (f (suc n))) refl l (λ p. first_greatest_first f n k p)
  where
    settle : (b : Bool) → int_lt (f (first_greatest f n)) (f (suc n)) ≡ b → k < (if b then suc n else first_greatest f n) →
        (k < first_greatest f n → f k <ℤ f (first_greatest f n)) → f k <ℤ f (if b then suc n else first_greatest f n)
    settle true e p before = under _ _ _ (first_greatest_is f n k (omega arith)) (less _ _ e)
    settle false e p before = before p

-- one step along the row
pub first_greatest_more : (f : ℕ → ℤ) (n : ℕ) → 0 < n →
    first_greatest f n ≡ (if int_lt (f (first_greatest f (n - 1))) (f n) then n else first_greatest f (n - 1))
unfolding first_greatest
first_greatest_more f zero l = absurd (omega arith)
first_greatest_more f (suc n) l = let e : suc n - 1 ≡ n = omega arith in rw e refl

-- ---- the groups for a half-frame, one after the other

-- the group is the first maximum in f 0 to f n
pub record IsBestSoFar (f : ℕ → ℤ) (n : ℕ) (best : GroupScore) : Type 0 where
  pub group : best.n1 ≡ first_greatest f n
  pub score : best.score ≡ f best.n1

pub best_of_one : (f : ℕ → ℤ) (best : GroupScore) → best.n1 ≡ 0 → best.score ≡ f 0 → IsBestSoFar f 0 best
unfolding first_greatest
best_of_one f best e g = record { group = e; score = g ∙ ap f (sym e) }

pub better_of_two : (f : ℕ → ℤ) (n : ℕ) (first second chosen : GroupScore) → 0 < n → IsBestSoFar f (n - 1) first → second.n1 ≡ n → second.score ≡ f n →
    chosen ≡ (if int_lt first.score second.score then second else first) → IsBestSoFar f n chosen
better_of_two f n first second chosen l p e g h = settle (int_lt first.score second.score) refl h
  where
    test_same : int_lt (f (first_greatest f (n - 1))) (f n) ≡ int_lt first.score second.score
    test_same =
        let a : f (first_greatest f (n - 1)) ≡ first.score = ap f (sym p.group) ∙ sym p.score in
        ap (λ x. int_lt x (f n)) a ∙ ap (int_lt first.score) (sym g)

    settle : (b : Bool) → int_lt first.score second.score ≡ b → chosen ≡ (if b then second else first) → IsBestSoFar f n chosen
    settle true t c =
        let last : first_greatest f n ≡ n = first_greatest_more f n l ∙ rw (test_same ∙ t) refl in
        let group : chosen.n1 ≡ n = ap (λ (x : GroupScore). x.n1) c ∙ e in
        record { group = group ∙ sym last; score = ap (λ (x : GroupScore). x.score) c ∙ g ∙ ap f (sym group) }
    settle false t c =
        let kept : first_greatest f n ≡ first_greatest f (n - 1) = first_greatest_more f n l ∙ rw (test_same ∙ t) refl in
        let group : chosen.n1 ≡ first.n1 = ap (λ (x : GroupScore). x.n1) c in
        record { group = group ∙ p.group ∙ sym kept; score = ap (λ (x : GroupScore). x.score) c ∙ p.score ∙ ap f (sym group) }

-- ---- the best pair

pub five_chosen : (scores : ℕ → Half → ℤ) (a b : ℕ) → a ≡ best_group scores Zero → b ≡ best_group scores Five →
    int_lt (scores a Zero) (scores b Five) ≡ true → (b, Five) ≡ best_pair scores
unfolding best_pair
five_chosen scores a b e g t =
    let above : int_lt (scores (best_group scores Zero) Zero) (scores (best_group scores Five) Five) ≡ true =
    ap (λ z. int_lt (scores z Zero) (scores (best_group scores Five) Five)) (sym e) ∙ ap (λ f. int_lt (scores a Zero) (scores f Five)) (sym g) ∙ t in
    rw above (ap (λ n. (n, Five)) g)

pub zero_chosen : (scores : ℕ → Half → ℤ) (a b : ℕ) → a ≡ best_group scores Zero → b ≡ best_group scores Five →
    int_lt (scores a Zero) (scores b Five) ≡ false → (a, Zero) ≡ best_pair scores
unfolding best_pair
zero_chosen scores a b e g t =
    let above : int_lt (scores (best_group scores Zero) Zero) (scores (best_group scores Five) Five) ≡ false =
    ap (λ z. int_lt (scores z Zero) (scores (best_group scores Five) Five)) (sym e) ∙ ap (λ f. int_lt (scores a Zero) (scores f Five)) (sym g) ∙ t in
    rw above (ap (λ n. (n, Zero)) e)

-- the best group for a half-frame against another group
in_half : (scores : ℕ → Half → ℤ) (half : Half) (m : ℕ) → m ≤ 167 → scores m half ≤ℤ scores (best_group scores half) half
in_half scores half m l = first_greatest_is (λ n1. scores n1 half) 167 m l

in_half_first : (scores : ℕ → Half → ℤ) (half : Half) (m : ℕ) → m < best_group scores half → scores m half <ℤ scores (best_group scores half) half
in_half_first scores half m l = first_greatest_first (λ n1. scores n1 half) 167 m l

five_best : (scores : ℕ → Half → ℤ) → scores (best_group scores Zero) Zero <ℤ scores (best_group scores Five) Five → IsBest scores (best_group scores Five) Five
five_best scores above = record {
  known = first_greatest-le (λ n1. scores n1 Five) 167;
  greatest = greatest;
  first = first;
}
  where
    greatest : (m : ℕ) (other : Half) → m ≤ 167 → scores m other ≤ℤ scores (best_group scores Five) Five
    greatest m Zero l = lt-le _ _ (under _ _ _ (in_half scores Zero m l) above)
    greatest m Five l = in_half scores Five m l

    first : (m : ℕ) (other : Half) → m ≤ 167 → IsBefore m other (best_group scores Five) Five → scores m other <ℤ scores (best_group scores Five) Five
    first m Zero l p = under _ _ _ (in_half scores Zero m l) above
    first m Five l p = in_half_first scores Five m p

zero_best : (scores : ℕ → Half → ℤ) → scores (best_group scores Five) Five ≤ℤ scores (best_group scores Zero) Zero → IsBest scores (best_group scores Zero) Zero
zero_best scores above = record {
  known = first_greatest-le (λ n1. scores n1 Zero) 167;
  greatest = greatest;
  first = first;
}
  where
    greatest : (m : ℕ) (other : Half) → m ≤ 167 → scores m other ≤ℤ scores (best_group scores Zero) Zero
    greatest m Zero l = in_half scores Zero m l
    greatest m Five l = no_more _ _ _ (in_half scores Five m l) above

    first : (m : ℕ) (other : Half) → m ≤ 167 → IsBefore m other (best_group scores Zero) Zero → scores m other <ℤ scores (best_group scores Zero) Zero
    first m Zero l p = in_half_first scores Zero m p
    first m Five l p = absurd p

pub best_pair_is_best : BestPairIsBest
unfolding best_pair
best_pair_is_best scores = settle (int_lt (scores (best_group scores Zero) Zero) (scores (best_group scores Five) Five)) refl
  where
    chosen : Bool → ℕ × Half
    chosen b = if b then (best_group scores Five, Five) else (best_group scores Zero, Zero)

    settle : (b : Bool) → int_lt (scores (best_group scores Zero) Zero) (scores (best_group scores Five) Five) ≡ b → IsBest scores (chosen b).0 (chosen b).1
    settle true e = five_best scores (less _ _ e)
    settle false e = zero_best scores (not_less _ _ e)

-- ---- uniqueness

-- neither of two best pairs comes before the other
not_before : (scores : ℕ → Half → ℤ) (n m : ℕ) (half other : Half) → IsBest scores n half → IsBest scores m other → IsBefore n half m other → ⊥
not_before scores n m half other p q b = lt-not_le _ _ (q.first n half p.known b) (p.greatest m other q.known)

pub same_pair : (n m : ℕ) (half other : Half) → (IsBefore n half m other → ⊥) → (IsBefore m other n half → ⊥) → (n ≡ m) × (half ≡ other)
same_pair n m Zero Zero p q = (grind arith, refl)
same_pair n m Zero Five p q = absurd (p tt)
same_pair n m Five Zero p q = absurd (q tt)
same_pair n m Five Five p q = (grind arith, refl)

pub only_one_is_best : OnlyOneIsBest
only_one_is_best scores n1 half p =
    let best = best_pair_is_best scores in
    same_pair n1 (best_pair scores).0 half (best_pair scores).1
    (not_before scores n1 (best_pair scores).0 half (best_pair scores).1 p best)
    (not_before scores (best_pair scores).0 n1 (best_pair scores).1 half best p)
