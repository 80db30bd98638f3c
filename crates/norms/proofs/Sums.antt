-- Sums compared term by term.
use Rattle.std.proofs.Common.{◌≡◌, ℕ, zero, suc, ◌<◌, inl, inr, ℤ, ◌+ℤ◌, ◌≤ℤ◌, arith, subst, sym}
use Rattle.std.proofs.lemmas.Int.{ints}
use Rattle.std.proofs.lemmas.Bool.{cases_lt}
use Rattle.finite.specs.Sums.{sum_below}

both : (a b x y : ℤ) → a ≤ℤ b → x ≤ℤ y → (a +ℤ x) ≤ℤ (b +ℤ y)
both a b x y p q = omega (arith, ints)

pub sum_below_le : (n : ℕ) (f g : ℕ → ℤ) → ((k : ℕ) → k < n → f k ≤ℤ g k) → sum_below n f ≤ℤ sum_below n g
unfolding sum_below
sum_below_le zero f g h = omega (arith, ints)
sum_below_le (suc n) f g h = both (sum_below n f) (sum_below n g) (f n) (g n) (sum_below_le n f g (λ k l. h k (omega arith))) (h n (omega arith))

first_part : (a b x y : ℤ) → a ≤ℤ b → x ≤ℤ y → (b +ℤ y) ≤ℤ (a +ℤ x) → b ≤ℤ a
first_part a b x y p q r = omega (arith, ints)

last_part : (a b x y : ℤ) → a ≤ℤ b → x ≤ℤ y → (b +ℤ y) ≤ℤ (a +ℤ x) → x ≡ y
last_part a b x y p q r = omega (arith, ints)

-- if no term of f exceeds that of g and the sum of f is no less, the terms are equal
pub terms_same : (n : ℕ) (f g : ℕ → ℤ) → ((k : ℕ) → k < n → f k ≤ℤ g k) → sum_below n g ≤ℤ sum_below n f → (k : ℕ) → k < n → f k ≡ g k
unfolding sum_below
terms_same zero f g h all k l = absurd (omega arith)
terms_same (suc n) f g h all k l =
    let before = sum_below_le n f g (λ i p. h i (omega arith)) in
    elim (cases_lt k n) [
      | inl lower ↦ terms_same n f g (λ i p. h i (omega arith)) (first_part (sum_below n f) (sum_below n g) (f n) (g n) before (h n (omega arith)) all) k lower
      | inr here ↦ let e : k ≡ n = omega arith in subst (λ i. f i ≡ g i) (sym e) (last_part (sum_below n f) (sum_below n g) (f n) (g n) before (h n (omega arith)) all)
    ]
