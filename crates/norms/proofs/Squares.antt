-- Squared magnitudes of sums and products.
use Rattle.std.proofs.Common.{◌≡◌, ℕ, ◌+◌, ◌*◌, ◌≤◌, ℤ, pos, negsuc, ◌+ℤ◌, ◌-ℤ◌, ◌*ℤ◌, neg_ℤ, refl, sym, ◌∙◌, arith}
use Rattle.std.proofs.lemmas.Int.{ints, unsigned_abs-mul}
use Rattle.std.specs.Prelude.{nat_abs}
use borrow.Author.Differences.{same_out, sum_is_lem}
use Rattle.finite.proofs.Ring.{Is, var, lit, same}
use Rattle.finite.proofs.Ring as ring
use Rattle.cs_num.specs.declared.Cpx.{Cpx}
use Rattle.cs_num.specs.Complex.{plus, times, conjugate, square, multiple}
use Rattle.cs_num.proofs.Complex.{pair}
use Rattle.norms.specs.Magnitudes.{inner, real}
use Rattle.norms.proofs.Naturals.{root-le}

pub abs_square : (a : ℤ) → a *ℤ a ≡ pos (nat_abs a * nat_abs a)
abs_square (pos n) = refl
abs_square (negsuc n) = refl

-- the squared magnitude, taken in ℤ
pub square_is : (z : Cpx) → z.re *ℤ z.re +ℤ z.im *ℤ z.im ≡ pos (square z)
square_is z = rw (abs_square z.re, abs_square z.im) refl

-- a number times its conjugate
pub times_conjugate : (x : Cpx) → times x (conjugate x) ≡ real (square x)
times_conjugate x =
    let a = var x.re in
    let b = var x.im in
    pair (same (ring.minus (ring.times a a) (ring.times b (ring.minus_one b))) (ring.plus (ring.times a a) (ring.times b b)) (omega arith) ∙ square_is x)
    (same (ring.plus (ring.times a (ring.minus_one b)) (ring.times b a)) (lit 0) (omega arith))

pos_same : (m n : ℕ) → pos m ≡ pos n → m ≡ n
pos_same m n e = omega (arith, same_out _ _ e)

product_parts : (a b c d : ℤ) → (a *ℤ c -ℤ b *ℤ d) *ℤ (a *ℤ c -ℤ b *ℤ d) +ℤ (a *ℤ d +ℤ b *ℤ c) *ℤ (a *ℤ d +ℤ b *ℤ c) ≡ (a *ℤ a +ℤ b *ℤ b) *ℤ (c *ℤ c +ℤ d *ℤ d)
product_parts a b c d =
    let p = var a in
    let q = var b in
    let r = var c in
    let s = var d in
    let re = ring.minus (ring.times p r) (ring.times q s) in
    let im = ring.plus (ring.times p s) (ring.times q r) in
    same (ring.plus (ring.times re re) (ring.times im im)) (ring.times (ring.plus (ring.times p p) (ring.times q q)) (ring.plus (ring.times r r) (ring.times s s))) (omega arith)

pub square-times : (x y : Cpx) → square (times x y) ≡ square x * square y
square-times x y = pos_same _ _ (sym (square_is (times x y)) ∙ product_parts x.re x.im y.re y.im ∙ rw (square_is x, square_is y) refl)

abs-negative : (a : ℤ) → nat_abs (neg_ℤ a) ≡ nat_abs a
abs-negative a = omega (arith, ints)

pub square-conjugate : (y : Cpx) → square (conjugate y) ≡ square y
square-conjugate y = rw (abs-negative y.im) refl

-- a bound on the magnitude bounds the components
pub re-le : (z : Cpx) (m : ℕ) → square z ≤ m * m → nat_abs z.re ≤ m
re-le z m h = root-le (nat_abs z.re) m (sums (nat_abs z.re * nat_abs z.re) (nat_abs z.im * nat_abs z.im) (m * m) h)
  where
    sums : (a b c : ℕ) → a + b ≤ c → a ≤ c
    sums a b c p = omega arith

pub im-le : (z : Cpx) (m : ℕ) → square z ≤ m * m → nat_abs z.im ≤ m
im-le z m h = root-le (nat_abs z.im) m (sums (nat_abs z.re * nat_abs z.re) (nat_abs z.im * nat_abs z.im) (m * m) h)
  where
    sums : (a b c : ℕ) → a + b ≤ c → b ≤ c
    sums a b c p = omega arith

sum_parts : (a b c d : ℤ) → (a +ℤ c) *ℤ (a +ℤ c) +ℤ (b +ℤ d) *ℤ (b +ℤ d) ≡ ((a *ℤ a +ℤ b *ℤ b) +ℤ (c *ℤ c +ℤ d *ℤ d)) +ℤ pos 2 *ℤ (a *ℤ c +ℤ b *ℤ d)
sum_parts a b c d =
    let p = var a in
    let q = var b in
    let r = var c in
    let s = var d in
    same (ring.plus (ring.times (ring.plus p r) (ring.plus p r)) (ring.times (ring.plus q s) (ring.plus q s)))
    (ring.plus (ring.plus (ring.plus (ring.times p p) (ring.times q q)) (ring.plus (ring.times r r) (ring.times s s))) (ring.times (lit 2) (ring.plus (ring.times p r) (ring.times q s)))) (omega arith)

-- |x + y|^2 = |x|^2 + |y|^2 + 2 re (x conj y)
pub square-plus : (x y : Cpx) → pos (square (plus x y)) ≡ pos (square x) +ℤ pos (square y) +ℤ pos 2 *ℤ inner x y
square-plus x y = sym (square_is (plus x y)) ∙ sum_parts x.re x.im y.re y.im ∙ rw (square_is x, square_is y) refl

at_most : (s x y : ℕ) (i : ℤ) → pos s ≡ pos x +ℤ pos y +ℤ pos 2 *ℤ i → s ≤ x + y + 2 * nat_abs i
at_most s x y i e = omega (arith, ints)

pub square-plus_le : (x y : Cpx) → square (plus x y) ≤ square x + square y + 2 * nat_abs (inner x y)
square-plus_le x y = at_most (square (plus x y)) (square x) (square y) (inner x y) (square-plus x y)

-- Lagrange's identity in two dimensions
lagrange : (a b c d : ℤ) → (a *ℤ c +ℤ b *ℤ d) *ℤ (a *ℤ c +ℤ b *ℤ d) +ℤ (a *ℤ d -ℤ b *ℤ c) *ℤ (a *ℤ d -ℤ b *ℤ c) ≡ (a *ℤ a +ℤ b *ℤ b) *ℤ (c *ℤ c +ℤ d *ℤ d)
lagrange a b c d =
    let p = var a in
    let q = var b in
    let r = var c in
    let s = var d in
    let re = ring.plus (ring.times p r) (ring.times q s) in
    let im = ring.minus (ring.times p s) (ring.times q r) in
    same (ring.plus (ring.times re re) (ring.times im im)) (ring.times (ring.plus (ring.times p p) (ring.times q q)) (ring.plus (ring.times r r) (ring.times s s))) (omega arith)

first_square : (u w : ℤ) (n : ℕ) → u *ℤ u +ℤ w *ℤ w ≡ pos n → nat_abs u * nat_abs u ≤ n
first_square u w n e = omega (arith, same_out _ _ e, same_out _ _ (abs_square u), same_out _ _ (abs_square w), sum_is_lem (u *ℤ u) (w *ℤ w))

-- the inner product is at most the product of the magnitudes
pub inner-le : (x y : Cpx) → nat_abs (inner x y) * nat_abs (inner x y) ≤ square x * square y
inner-le x y = first_square (inner x y) (x.re *ℤ y.im -ℤ x.im *ℤ y.re) (square x * square y) (lagrange x.re x.im y.re y.im ∙ rw (square_is x, square_is y) refl)

times_squared : (m a b : ℕ) → m * a * (m * a) + m * b * (m * b) ≡ m * m * (a * a + b * b)
times_squared m a b = omega arith

-- a factor n multiplies the square by n^2
pub square-multiple : (n : ℕ) (z : Cpx) → square (multiple n z) ≡ n * n * square z
square-multiple n z = rw (unsigned_abs-mul (pos n) z.re, unsigned_abs-mul (pos n) z.im) (times_squared n (nat_abs z.re) (nat_abs z.im))
