-- The best candidate's residual.
use Rattle.std.proofs.Common.{add-one, ◌≡◌, ℕ, zero, suc, ◌<◌, ◌≤◌, ◌+◌, inl, inr, arith, subst, max, refl, ap, ap₂}
use Rattle.std.proofs.lemmas.Bool.{cases_lt}
use Rattle.cs_num.specs.declared.Cpx.{Cpx}
use Rattle.cs_num.specs.Complex.{IsWithin, largest_part}
use Rattle.cs_num.proofs.Complex.{largest_part-le}
use Rattle.cancel.specs.Gain.{greatest_below, GoesBefore}
use Rattle.cancel.specs.Laws.{BestLeavesLeast}

pub greatest-le : (n bound : ℕ) (f : ℕ → Cpx) → ((i : ℕ) → i < n → IsWithin bound (f i)) → greatest_below n f ≤ bound
unfolding greatest_below
greatest-le zero bound f h = omega arith
greatest-le (suc n) bound f h =
    both (greatest_below n f) (largest_part (f n)) (greatest-le n bound f (λ i l. h i (omega arith))) (largest_part-le (f n) bound (h n (omega arith)))
  where
    both : (a b : ℕ) → a ≤ bound → b ≤ bound → max a b ≤ bound
    both a b p q = omega (arith, p, q)

within : (bound : ℕ) (z : Cpx) → largest_part z ≤ bound → IsWithin bound z
within bound z h = record { re = omega (arith, h); im = omega (arith, h) }

pub greatest-each : (n bound : ℕ) (f : ℕ → Cpx) → greatest_below n f ≤ bound → (i : ℕ) → i < n → IsWithin bound (f i)
unfolding greatest_below
greatest-each zero bound f h i l = absurd (omega arith)
greatest-each (suc n) bound f h i l = elim (cases_lt i n) [
  | inl lower ↦ greatest-each n bound f (first (greatest_below n f) (largest_part (f n)) h) i lower
  | inr here ↦ let e : n ≡ i = omega arith in subst (λ k. IsWithin bound (f k)) e (within bound (f n) (second (greatest_below n f) (largest_part (f n)) h))
]
  where
    first : (a b : ℕ) → max a b ≤ bound → a ≤ bound
    first a b p = omega (arith, p)

    second : (a b : ℕ) → max a b ≤ bound → b ≤ bound
    second a b p = omega (arith, p)

no_greater : (greatest : Cpx → ℕ) (best gain : Cpx) → GoesBefore greatest best gain → greatest best ≤ greatest gain
no_greater greatest best gain (inl less) = omega (arith, less)
no_greater greatest best gain (inr (same, rest)) = omega (arith, same)

pub best_leaves_least : BestLeavesLeast
best_leaves_least count left middle best gain bound is candidate small =
    let low : greatest_below count (left best) ≤ bound =
    chain (greatest_below count (left best)) (greatest_below count (left gain)) (no_greater (λ g. greatest_below count (left g)) best gain (is.first gain candidate)) (greatest-le count bound (left gain) small) in
    (low, greatest-each count bound (left best) low)
  where
    chain : (a b : ℕ) → a ≤ b → b ≤ bound → a ≤ bound
    chain a b p q = omega (arith, p, q)

pub greatest_none : (f : ℕ → Cpx) → greatest_below 0 f ≡ 0
unfolding greatest_below
greatest_none f = refl

pub greatest_more : (n : ℕ) (f : ℕ → Cpx) → greatest_below (n + 1) f ≡ max (greatest_below n f) (largest_part (f n))
unfolding greatest_below
greatest_more n f = rw add-one refl

pub greatest-grows : (m n : ℕ) (f : ℕ → Cpx) → m ≤ n → greatest_below m f ≤ greatest_below n f
unfolding greatest_below
greatest-grows m zero f h = let e : m ≡ 0 = omega (arith, h) in rw e (omega arith)
greatest-grows m (suc n) f h = elim (cases_lt n m) [
  | inl more ↦ let e : m ≡ suc n = omega (arith, h, more) in rw e (omega arith)
  | inr less ↦ wider (greatest_below m f) (greatest_below n f) (largest_part (f n)) (greatest-grows m n f less)
]
  where
    wider : (a b c : ℕ) → a ≤ b → a ≤ max b c
    wider a b c p = omega (arith, p)

pub greatest_same : (n : ℕ) (f g : ℕ → Cpx) → ((i : ℕ) → i < n → f i ≡ g i) → greatest_below n f ≡ greatest_below n g
unfolding greatest_below
greatest_same zero f g same = refl
greatest_same (suc n) f g same = ap₂ max (greatest_same n f g (λ i l. same i (omega (arith, l)))) (ap largest_part (same n (omega arith)))
