-- Steps, bounds and laws for finite sums.
use Rattle.std.proofs.Common.{◌≡◌, ◌≢◌, ℕ, zero, suc, ◌+◌, ◌-◌, ◌*◌, ◌<◌, ◌≤◌, Bool, true, false, arith, refl, ap, ap₂, ◌∙◌, sym, subst, add-one, ℤ, pos, ◌+ℤ◌, ◌-ℤ◌, ◌*ℤ◌, inl, inr}
use Rattle.std.proofs.lemmas.Bool.{cases_lt, false≢true}
use Rattle.std.proofs.lemmas.Int.{ints}
use Rattle.std.specs.Prelude.{◌||◌, nat_abs}
use Rattle.finite.specs.Sums.{sum_below, total_below}
use Rattle.finite.specs.Tests.{any_below}
use Rattle.finite.proofs.Integers.{abs-sum, mul-distributes}

-- ---- integers

pub sum_below_none : (f : ℕ → ℤ) → sum_below 0 f ≡ pos 0
unfolding sum_below
sum_below_none f = refl

pub sum_below_more : (n : ℕ) (f : ℕ → ℤ) → sum_below (n + 1) f ≡ sum_below n f +ℤ f n
unfolding sum_below
sum_below_more n f = rw add-one refl

pub sum_below_same : (n : ℕ) (f g : ℕ → ℤ) → ((k : ℕ) → k < n → f k ≡ g k) → sum_below n f ≡ sum_below n g
unfolding sum_below
sum_below_same zero f g h = refl
sum_below_same (suc n) f g h =
    let before = sum_below_same n f g (λ k l. h k (omega arith)) in
    let here = h n (omega arith) in
    cc

pub sum_below-within : (n bound : ℕ) (f : ℕ → ℤ) → ((k : ℕ) → k < n → nat_abs (f k) ≤ bound) → nat_abs (sum_below n f) ≤ n * bound
unfolding sum_below
sum_below-within zero bound f h = omega arith
sum_below-within (suc n) bound f h =
    let before = sum_below-within n bound f (λ k l. h k (omega arith)) in
    omega (arith, before, h n (omega arith), abs-sum (sum_below n f) (f n))

pub sum_below_plus : (n : ℕ) (f g : ℕ → ℤ) → sum_below n (λ k. f k +ℤ g k) ≡ sum_below n f +ℤ sum_below n g
unfolding sum_below
sum_below_plus zero f g = refl
sum_below_plus (suc n) f g = let h = sum_below_plus n f g in omega (arith, ints, h)

pub sum_below_scaled : (n : ℕ) (a : ℤ) (f : ℕ → ℤ) → sum_below n (λ k. a *ℤ f k) ≡ a *ℤ sum_below n f
unfolding sum_below
sum_below_scaled zero a f = omega (arith, ints)
sum_below_scaled (suc n) a f = ap (λ s. s +ℤ a *ℤ f n) (sum_below_scaled n a f) ∙ sym (mul-distributes a (sum_below n f) (f n))

sum_below_zeros : (n : ℕ) → sum_below n (λ _. pos 0) ≡ pos 0
unfolding sum_below
sum_below_zeros zero = refl
sum_below_zeros (suc n) = let h = sum_below_zeros n in omega (arith, ints, h)

pub sum_below_swap : (n m : ℕ) (f : ℕ → ℕ → ℤ) → sum_below n (λ i. sum_below m (f i)) ≡ sum_below m (λ j. sum_below n (λ i. f i j))
unfolding sum_below
sum_below_swap zero m f = sym (sum_below_zeros m)
sum_below_swap (suc n) m f = ap (λ s. s +ℤ sum_below m (f n)) (sum_below_swap n m f) ∙ sym (sum_below_plus m (λ j. sum_below n (λ i. f i j)) (f n))

pub sum_below_split : (n m : ℕ) (f : ℕ → ℤ) → sum_below (n + m) f ≡ sum_below n f +ℤ sum_below m (λ k. f (n + k))
unfolding sum_below
sum_below_split n zero f = let e : n + 0 ≡ n = omega arith in rw e (omega (arith, ints))
sum_below_split n (suc m) f =
    let e : n + suc m ≡ suc (n + m) = omega arith in
    let h = sum_below_split n m f in
    subst (λ l. sum_below l f ≡ sum_below n f +ℤ (sum_below m (λ k. f (n + k)) +ℤ f (n + m))) (sym e) (omega (arith, ints, h))

pub sum_below_minus : (n : ℕ) (f g : ℕ → ℤ) → sum_below n (λ k. f k -ℤ g k) ≡ sum_below n f -ℤ sum_below n g
unfolding sum_below
sum_below_minus zero f g = refl
sum_below_minus (suc n) f g = step (sum_below n (λ k. f k -ℤ g k)) (sum_below n f) (sum_below n g) (f n) (g n) (sum_below_minus n f g)
  where
    step : (s a b c d : ℤ) → s ≡ a -ℤ b → s +ℤ (c -ℤ d) ≡ a +ℤ c -ℤ (b +ℤ d)
    step s a b c d e = omega (arith, ints)

pub sum_below_one : (f : ℕ → ℤ) → sum_below 1 f ≡ f 0
unfolding sum_below
sum_below_one f = from_nothing (f 0)
  where
    from_nothing : (a : ℤ) → pos 0 +ℤ a ≡ a
    from_nothing a = omega (arith, ints)

-- reversing the terms does not change the sum
pub sum_below_backward : (n : ℕ) (f : ℕ → ℤ) → sum_below n (λ k. f (n - 1 - k)) ≡ sum_below n f
unfolding sum_below
sum_below_backward zero f = refl
sum_below_backward (suc n) f =
    ap₂ (λ (a b : ℤ). a +ℤ b)
    (sum_below_same n (λ k. f (suc n - 1 - k)) (λ k. f (1 + (n - 1 - k))) (λ k l. ap f (let e : suc n - 1 - k ≡ 1 + (n - 1 - k) = omega (arith, l) in e)) ∙ sum_below_backward n (λ k. f (1 + k)))
    (ap f (let e : suc n - 1 - n ≡ 0 = omega arith in e))
    ∙ turned (sum_below n (λ k. f (1 + k))) (f 0) (sum_below 1 f) (sum_below_one f)
    ∙ sym (sum_below_split 1 n f) ∙ ap (λ m. sum_below m f) (let e : 1 + n ≡ suc n = omega arith in e)
  where
    turned : (a b c : ℤ) → c ≡ b → a +ℤ b ≡ c +ℤ a
    turned a b c e = omega (arith, ints)

-- ---- natural numbers

pub total_below_none : (f : ℕ → ℕ) → total_below 0 f ≡ 0
unfolding total_below
total_below_none f = refl

pub total_below_more : (n : ℕ) (f : ℕ → ℕ) → total_below (n + 1) f ≡ total_below n f + f n
unfolding total_below
total_below_more n f = rw add-one refl

pub total_below_same : (n : ℕ) (f g : ℕ → ℕ) → ((k : ℕ) → k < n → f k ≡ g k) → total_below n f ≡ total_below n g
unfolding total_below
total_below_same zero f g h = refl
total_below_same (suc n) f g h =
    let before = total_below_same n f g (λ k l. h k (omega arith)) in
    let here = h n (omega arith) in
    cc

pub total_below-within : (n bound : ℕ) (f : ℕ → ℕ) → ((k : ℕ) → k < n → f k ≤ bound) → total_below n f ≤ n * bound
unfolding total_below
total_below-within zero bound f h = omega arith
total_below-within (suc n) bound f h =
    let before = total_below-within n bound f (λ k l. h k (omega arith)) in
    omega (arith, before, h n (omega arith))

-- a sum of n terms that are at least `bound`
pub total_below-least : (n bound : ℕ) (f : ℕ → ℕ) → ((k : ℕ) → k < n → bound ≤ f k) → n * bound ≤ total_below n f
unfolding total_below
total_below-least zero bound f h = omega arith
total_below-least (suc n) bound f h =
    let before = total_below-least n bound f (λ k l. h k (omega arith)) in
    omega (arith, before, h n (omega arith))

pub total_below_split : (n m : ℕ) (f : ℕ → ℕ) → total_below (n + m) f ≡ total_below n f + total_below m (λ k. f (n + k))
unfolding total_below
total_below_split n zero f = let e : n + 0 ≡ n = omega arith in rw e (omega arith)
total_below_split n (suc m) f =
    let e : n + suc m ≡ suc (n + m) = omega arith in
    let h = total_below_split n m f in
    subst (λ l. total_below l f ≡ total_below n f + (total_below m (λ k. f (n + k)) + f (n + m))) (sym e) (omega (arith, h))

-- a window of n terms, moved by one, loses its first term and gains the next
pub total_below_slides : (n t : ℕ) (f : ℕ → ℕ) → total_below n (λ k. f (t + 1 + k)) + f t ≡ total_below n (λ k. f (t + k)) + f (t + n)
unfolding total_below
total_below_slides zero t f = let e : t + 0 ≡ t = omega arith in rw e refl
total_below_slides (suc n) t f =
    more (total_below n (λ k. f (t + 1 + k))) (total_below n (λ k. f (t + k))) (f t) (f (t + n)) (f (t + 1 + n)) (f (t + suc n)) (total_below_slides n t f)
    (ap f (let e : t + 1 + n ≡ t + suc n = omega arith in e))
  where
    more : (a b x y z w : ℕ) → a + x ≡ b + y → z ≡ w → a + z + x ≡ b + y + w
    more a b x y z w h e = omega (arith, h, e)

-- a sum of naturals, taken in ℤ
pub sum_below_pos : (n : ℕ) (f : ℕ → ℕ) → sum_below n (λ k. pos (f k)) ≡ pos (total_below n f)
unfolding sum_below total_below
sum_below_pos zero f = refl
sum_below_pos (suc n) f = let before = sum_below_pos n f in omega (arith, ints, before)

-- the sums, if one term is greater by c and the others are equal
pub total_below_changed : (n k c : ℕ) (f g : ℕ → ℕ) → k < n → f k ≡ g k + c → ((j : ℕ) → j ≢ k → f j ≡ g j) →
    total_below n f ≡ total_below n g + c
unfolding total_below
total_below_changed zero k c f g inside here others = absurd (omega (arith, inside))
total_below_changed (suc n) k c f g inside here others = elim (cases_lt k n) [
  | inl lower ↦
      let before = total_below_changed n k c f g lower here others in
      let last = others n (λ e. omega (arith, e, lower)) in
      omega (arith, before, last)
  | inr past ↦
      let e : k ≡ n = omega (arith, inside, past) in
      let before = total_below_same n f g (λ j l. others j (λ d. omega (arith, d, l, e))) in
      let last = subst (λ i. f i ≡ g i + c) e here in
      omega (arith, before, last)
]

-- a sum of zeros is 0
pub total_zero : (n : ℕ) (f : ℕ → ℕ) → ((k : ℕ) → k < n → f k ≡ 0) → total_below n f ≡ 0
unfolding total_below
total_zero zero f h = refl
total_zero (suc n) f h =
    let before = total_zero n f (λ k l. h k (omega arith)) in
    let here = h n (omega arith) in
    omega (arith, before, here)

pub terms_zero : (n : ℕ) (f : ℕ → ℕ) → total_below n f ≡ 0 → (k : ℕ) → k < n → f k ≡ 0
unfolding total_below
terms_zero zero f h k l = absurd (omega arith)
terms_zero (suc n) f h k l = elim (cases_lt k n) [
  | inl lower ↦ terms_zero n f (first (total_below n f) (f n) h) k lower
  | inr here ↦ let e : n ≡ k = omega arith in subst (λ i. f i ≡ 0) e (last (total_below n f) (f n) h)
]
  where
    first : (a b : ℕ) → a + b ≡ 0 → a ≡ 0
    first a b e = omega (arith, e)

    last : (a b : ℕ) → a + b ≡ 0 → b ≡ 0
    last a b e = omega (arith, e)

-- a sum with a positive term is positive
pub total_some : (n k : ℕ) (f : ℕ → ℕ) → k < n → 1 ≤ f k → 1 ≤ total_below n f
unfolding total_below
total_some zero k f l h = absurd (omega arith)
total_some (suc n) k f l h = elim (cases_lt k n) [
  | inl lower ↦ first (total_below n f) (f n) (total_some n k f lower h)
  | inr here ↦ let e : k ≡ n = omega arith in last (total_below n f) (f n) (subst (λ i. 1 ≤ f i) e h)
]
  where
    first : (a b : ℕ) → 1 ≤ a → 1 ≤ a + b
    first a b h = omega (arith, h)

    last : (a b : ℕ) → 1 ≤ b → 1 ≤ a + b
    last a b h = omega (arith, h)

-- a single term is at most the sum
pub total_below-term : (n k : ℕ) (f : ℕ → ℕ) → k < n → f k ≤ total_below n f
unfolding total_below
total_below-term zero k f l = absurd (omega arith)
total_below-term (suc n) k f l = elim (cases_lt k n) [
  | inl lower ↦ first (f k) (total_below n f) (f n) (total_below-term n k f lower)
  | inr here ↦ let e : n ≡ k = omega arith in subst (λ i. f i ≤ total_below n f + f n) e (last (total_below n f) (f n))
]
  where
    first : (x a b : ℕ) → x ≤ a → x ≤ a + b
    first x a b h = omega (arith, h)

    last : (a b : ℕ) → b ≤ a + b
    last a b = omega arith

-- ---- positive numbers

-- whether a number is positive
abbrev pub positive : ℕ → Bool
positive zero = false
positive (suc n) = true

pub positive_from : (n : ℕ) → 1 ≤ n → positive n ≡ true
positive_from zero h = absurd (omega (arith, h))
positive_from (suc n) h = refl

pub positive_at : (n : ℕ) → positive n ≡ true → 1 ≤ n
positive_at zero e = absurd (false≢true e)
positive_at (suc n) e = omega arith

pub positive-sum : (a b : ℕ) → positive (a + b) ≡ (positive a || positive b)
positive-sum zero b = ap positive (omega arith)
positive-sum (suc a) b = let e : suc a + b ≡ suc (a + b) = omega arith in ap positive e

-- a sum is positive if and only if one of its terms is
pub total_below-positive : (n : ℕ) (f : ℕ → ℕ) (p : ℕ → Bool) → ((k : ℕ) → k < n → positive (f k) ≡ p k) →
    positive (total_below n f) ≡ any_below n p
unfolding total_below any_below
total_below-positive zero f p each = refl
total_below-positive (suc n) f p each =
    positive-sum (total_below n f) (f n)
    ∙ ap₂ ◌||◌ (total_below-positive n f p (λ k l. each k (omega (arith, l)))) (each n (omega arith))
