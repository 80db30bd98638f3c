-- Tests that pass only numbers a step apart: at most one number in a step passes.
use Rattle.std.proofs.Common.{◌≡◌, ℕ, zero, suc, ◌+◌, ◌-◌, ◌*◌, ◌<◌, ◌≤◌, arith, refl, ap, sym, ◌∙◌, Bool, true, false}
use Rattle.finite.proofs.Counts.{count_below}
use Rattle.finite.proofs.Counts.{count_below_none, count_below_more}

-- two passing numbers are at least ten apart
abbrev pub IsSparse : (ℕ → Bool) → Type 0
IsSparse p = (i j : ℕ) → i < j → p i ≡ true → p j ≡ true → i + 10 ≤ j

pub count_more_yes : (n : ℕ) (p : ℕ → Bool) → p n ≡ true → count_below (n + 1) p ≡ count_below n p + 1
count_more_yes n p e = count_below_more n p ∙ rw e refl

pub count_more_no : (n : ℕ) (p : ℕ → Bool) → p n ≡ false → count_below (n + 1) p ≡ count_below n p
count_more_no n p e = count_below_more n p ∙ rw e (omega arith)

-- no number passes in between: the count stays
count_stays : (p : ℕ → Bool) (n k : ℕ) → ((i : ℕ) → n ≤ i → i < n + k → p i ≡ false) → count_below (n + k) p ≡ count_below n p
count_stays p n zero h = let e : n + 0 ≡ n = omega arith in rw e refl
count_stays p n (suc k) h =
    let e : n + suc k ≡ n + k + 1 = omega arith in
    rw e (count_more_no (n + k) p (h (n + k) (omega arith) (omega arith)) ∙ count_stays p n k (λ i a b. h i a (omega arith)))

-- a number passes: the earlier ones are ten lower
low_count : (p : ℕ → Bool) → IsSparse p → (n : ℕ) → p n ≡ true → count_below n p ≡ count_below (n - 9) p
low_count p sparse n passes =
    let e : n - 9 + (n - (n - 9)) ≡ n = omega arith in
    ap (λ m. count_below m p) (sym e) ∙ count_stays p (n - 9) (n - (n - 9)) (λ i low high. fails i (omega arith) (omega arith) (p i) refl)
  where
    fails : (i : ℕ) → n < i + 10 → i < n → (b : Bool) → p i ≡ b → p i ≡ false
    fails i near below true e = absurd (omega (arith, sparse i n below e passes))
    fails i near below false e = e

count_step : (p : ℕ → Bool) → IsSparse p → (m : ℕ) (b : Bool) → p m ≡ b →
    10 * count_below m p ≤ m + 9 → 10 * count_below (m - 9) p ≤ m - 9 + 9 → 10 * count_below (m + 1) p ≤ m + 1 + 9
count_step p sparse m true e near far = omega (arith, count_more_yes m p e, low_count p sparse m e)
count_step p sparse m false e near far = omega (arith, count_more_no m p e)

-- at most one in ten passes
pub count_within : (p : ℕ → Bool) → IsSparse p → (fuel n : ℕ) → n ≤ fuel → 10 * count_below n p ≤ n + 9
count_within p sparse fuel zero h = omega (arith, count_below_none p)
count_within p sparse zero (suc m) h = absurd (omega arith)
count_within p sparse (suc fuel) (suc m) h =
    let e : suc m ≡ m + 1 = omega arith in
    let near = count_within p sparse fuel m (omega arith) in
    let far = count_within p sparse fuel (m - 9) (omega arith) in
    rw e (count_step p sparse m (p m) refl near far)
