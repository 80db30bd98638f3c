-- Counts of the numbers below n that pass a test, and sums over them.
use Rattle.std.proofs.Common.{◌≡◌, ℕ, zero, suc, ◌+◌, ◌*◌, ◌<◌, ◌≤◌, Bool, true, false, cond, ℤ, pos, ◌+ℤ◌, nat_abs, refl, arith, sym, ap, ◌∙◌, add-zero, add-one}
use Rattle.finite.specs.Sums.{sum_below}
use Rattle.finite.proofs.Integers.{abs-sum}

-- how many numbers below n pass
unfoldable pub count_below : ℕ → (ℕ → Bool) → ℕ
count_below zero p = 0
count_below (suc n) p = count_below n p + cond (p n) 1 0

pub count_below_none : (p : ℕ → Bool) → count_below 0 p ≡ 0
unfolding count_below
count_below_none p = refl

pub count_below_more : (n : ℕ) (p : ℕ → Bool) → count_below (n + 1) p ≡ count_below n p + cond (p n) 1 0
unfolding count_below
count_below_more n p = rw add-one refl

with_one : (sum z : ℤ) (b : Bool) (count bound : ℕ) → nat_abs sum ≤ count * bound → nat_abs z ≤ bound →
    nat_abs (sum +ℤ cond b z (pos 0)) ≤ (count + cond b 1 0) * bound
with_one sum z true count bound before here =
    let whole = abs-sum sum z in
    let product : (count + 1) * bound ≡ count * bound + bound = grind arith in
    omega (arith, before, here, whole, product)
with_one sum z false count bound before here =
    let whole = abs-sum sum (pos 0) in
    let product : (count + 0) * bound ≡ count * bound = grind arith in
    omega (arith, before, whole, product)

-- a sum over the passing numbers, bounded by their count
pub sum_of_passing-within : (n bound : ℕ) (p : ℕ → Bool) (v : ℕ → ℤ) → ((k : ℕ) → k < n → nat_abs (v k) ≤ bound) →
    nat_abs (sum_below n (λ k. cond (p k) (v k) (pos 0))) ≤ count_below n p * bound
unfolding sum_below count_below
sum_of_passing-within zero bound p v small = omega arith
sum_of_passing-within (suc n) bound p v small =
    let before = sum_of_passing-within n bound p v (λ k below. small k (omega arith)) in
    let here = small n (omega arith) in
    with_one (sum_below n (λ k. cond (p k) (v k) (pos 0))) (v n) (p n) (count_below n p) bound before here

count_none : (n : ℕ) (p : ℕ → Bool) → ((k : ℕ) → k < n → p k ≡ false) → count_below n p ≡ 0
unfolding count_below
count_none zero p none = refl
count_none (suc n) p none =
    let before = count_none n p (λ k below. none k (omega arith)) in
    rw (none n (omega arith)) (omega (arith, before))

clash : (b : Bool) → (b ≡ true → ⊥) → b ≡ false
clash true never = absurd (never refl)
clash false never = refl

not_again : (n : ℕ) (p : ℕ → Bool) (k : ℕ) → k < n → p n ≡ true →
    ((i j : ℕ) → i < suc n → j < suc n → p i ≡ true → p j ≡ true → i ≡ j) → p k ≡ false
not_again n p k below here once =
    clash (p k) (λ there. let e = once k n (omega arith) (omega arith) there here in omega (arith, e, below))

last_or_before : (n : ℕ) (p : ℕ → Bool) (b : Bool) → p n ≡ b → count_below n p ≤ 1 → (p n ≡ true → count_below n p ≡ 0) →
    count_below n p + cond (p n) 1 0 ≤ 1
last_or_before n p true is before none = let none = none is in rw is (omega (arith, none))
last_or_before n p false is before none = rw is (omega (arith, before))

-- at most one number passes
pub count_once : (n : ℕ) (p : ℕ → Bool) → ((i j : ℕ) → i < n → j < n → p i ≡ true → p j ≡ true → i ≡ j) → count_below n p ≤ 1
unfolding count_below
count_once zero p once = omega arith
count_once (suc n) p once =
    last_or_before n p (p n) refl (count_once n p (λ i j hi hj. once i j (omega arith) (omega arith)))
    (λ here. count_none n p (λ k below. not_again n p k below here once))

pub count_split : (n m : ℕ) (p : ℕ → Bool) → count_below (n + m) p ≡ count_below n p + count_below m (λ k. p (n + k))
unfolding count_below
count_split n zero p = ap (λ m. count_below m p) (add-zero n) ∙ sym (add-zero (count_below n p))
count_split n (suc m) p =
    let before = count_split n m p in
    let e : n + suc m ≡ suc (n + m) = omega arith in
    rw e (omega (arith, before))
