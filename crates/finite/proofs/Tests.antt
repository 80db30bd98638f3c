-- Laws for tests on the numbers below n.
use Rattle.std.proofs.Common.{◌≡◌, ℕ, zero, suc, ◌+◌, ◌<◌, arith, refl, ap, ap₂, ◌∙◌, sym, subst, inl, inr, Bool, true, false, nat_lt, add-one}
use Rattle.std.specs.Prelude.{◌&&◌, ◌||◌}
use Rattle.std.proofs.lemmas.Bool.{cases_lt, ltb-true, ltb-false, and_parts, and_from, or_cases, or_left, or_right}
use Rattle.std.proofs.Math.Bool.{true≢false}
use Rattle.finite.specs.Tests.{any_below, every_below}

-- ---- some number passes

pub any_below_more : (n : ℕ) (p : ℕ → Bool) → any_below (n + 1) p ≡ (any_below n p || p n)
unfolding any_below
any_below_more n p = rw add-one refl

-- a single passing number decides
pub any_below_at : (n k : ℕ) (p : ℕ → Bool) → k < n → p k ≡ true → any_below n p ≡ true
unfolding any_below
any_below_at zero k p l e = absurd (omega arith)
any_below_at (suc n) k p l e = settle (nat_lt k n) refl (λ below. any_below_at n k p below e)
  where
    settle : (b : Bool) → nat_lt k n ≡ b → (k < n → any_below n p ≡ true) → (any_below n p || p n) ≡ true
    settle true h before = or_left (any_below n p) (p n) (before (ltb-true k n h))
    settle false h before = let s : k ≡ n = omega (arith, ltb-false k n h) in or_right (any_below n p) (p n) (ap p (sym s) ∙ e)

-- if none passes, each fails
pub any_below_none : (n k : ℕ) (p : ℕ → Bool) → any_below n p ≡ false → k < n → p k ≡ false
any_below_none n k p none l = fails (p k) refl
  where
    fails : (b : Bool) → p k ≡ b → p k ≡ false
    fails true e = absurd (true≢false (sym (any_below_at n k p l e) ∙ none))
    fails false e = e

-- if each fails, none passes
pub any_below_all : (n : ℕ) (p : ℕ → Bool) → ((k : ℕ) → k < n → p k ≡ false) → any_below n p ≡ false
unfolding any_below
any_below_all zero p h = refl
any_below_all (suc n) p h =
    let before = any_below_all n p (λ k l. h k (omega arith)) in
    let here = h n (omega arith) in
    rw (before, here) refl

-- a witness, if some number passes
pub any_below_some : (n : ℕ) (p : ℕ → Bool) → any_below n p ≡ true → (k : ℕ) × (k < n) × (p k ≡ true)
unfolding any_below
any_below_some zero p h = absurd (true≢false (sym h))
any_below_some (suc n) p h = elim (or_cases (any_below n p) (p n) h) [
  | inl before ↦ let (k, below, is) = any_below_some n p before in (k, omega (arith, below), is)
  | inr here ↦ (n, omega arith, here)
]

-- tests that agree below n have the same outcome
pub any_below_same : (n : ℕ) (p q : ℕ → Bool) → ((k : ℕ) → k < n → p k ≡ q k) → any_below n p ≡ any_below n q
unfolding any_below
any_below_same zero p q h = refl
any_below_same (suc n) p q h = ap₂ ◌||◌ (any_below_same n p q (λ k l. h k (omega (arith, l)))) (h n (omega arith))

-- ---- every number passes

-- a computed test, read at one number
pub every_below_at : (n : ℕ) (p : ℕ → Bool) → every_below n p ≡ true → (k : ℕ) → k < n → p k ≡ true
unfolding every_below
every_below_at zero p e k l = absurd (omega arith)
every_below_at (suc n) p e k l = settle (nat_lt k n) refl (λ below. every_below_at n p parts.0 k below)
  where
    parts : (every_below n p ≡ true) × (p n ≡ true)
    parts = and_parts (every_below n p) (p n) e

    settle : (b : Bool) → nat_lt k n ≡ b → (k < n → p k ≡ true) → p k ≡ true
    settle true h before = before (ltb-true k n h)
    settle false h before = let s : n ≡ k = omega (arith, ltb-false k n h) in subst (λ i. p i ≡ true) s parts.1

-- if each number passes, all do
pub every_below_all : (n : ℕ) (p : ℕ → Bool) → ((k : ℕ) → k < n → p k ≡ true) → every_below n p ≡ true
unfolding every_below
every_below_all zero p h = refl
every_below_all (suc n) p h =
    and_from (every_below n p) (p n) (every_below_all n p (λ k l. h k (omega (arith, l)))) (h n (omega arith))

-- tests that agree below n have the same outcome
pub every_below_same : (n : ℕ) (p q : ℕ → Bool) → ((k : ℕ) → k < n → p k ≡ q k) → every_below n p ≡ every_below n q
unfolding every_below
every_below_same zero p q h = refl
every_below_same (suc n) p q h = ap₂ ◌&&◌ (every_below_same n p q (λ k l. h k (omega (arith, l)))) (h n (omega arith))

-- a property of the numbers below n and of n holds below n + 1
pub each_below_more : (P : ℕ → Type 0) (n : ℕ) → ((k : ℕ) → k < n → P k) → P n → (k : ℕ) → k < n + 1 → P k
each_below_more P n before here k below = elim (cases_lt k n) [
  | inl lower ↦ before k lower
  | inr past ↦ let e : n ≡ k = omega arith in subst P e here
]
