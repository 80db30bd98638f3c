-- More laws for complex integers and their sums.
use Rattle.std.proofs.Common.{◌+◌, ◌≡◌, ◌≢◌, ℕ, zero, suc, ◌*◌, ◌<◌, inl, inr, ℤ, pos, ◌+ℤ◌, ◌-ℤ◌, ◌*ℤ◌, neg_ℤ, refl, ap, ap₂, sym, ◌∙◌, arith}
use Rattle.std.proofs.lemmas.Int.{ints}
use Rattle.std.proofs.lemmas.Bool.{cases_lt}
use Rattle.finite.specs.Sums.{sum_below}
use Rattle.finite.proofs.Ring.{Is, var, lit, same}
use Rattle.finite.proofs.Ring as ring
use Rattle.finite.proofs.Sums.{sum_below_scaled}
use Rattle.cs_num.specs.declared.Cpx.{Cpx}
use Rattle.cs_num.specs.Complex.{nothing, plus, times, conjugate, minus, multiple}
use Rattle.cs_num.specs.Sums.{complex_sum_below}
use Rattle.cs_num.proofs.Complex.{pair, plus-nothing, plus-commutes, times-plus, times-commutes}
use Rattle.cs_num.proofs.Sums.{complex_sum_below_same}
use Rattle.norms.specs.Magnitudes.{real}

-- ---- sums and differences

pub plus-nothing_right : (a : Cpx) → plus a nothing ≡ a
plus-nothing_right a = plus-commutes a nothing ∙ plus-nothing a

-- (a + b) + (c + d) = (a + c) + (b + d)
pub plus-exchanges : (a b c d : Cpx) → plus (plus a b) (plus c d) ≡ plus (plus a c) (plus b d)
plus-exchanges a b c d = pair (parts a.re b.re c.re d.re) (parts a.im b.im c.im d.im)
  where
    parts : (a b c d : ℤ) → a +ℤ b +ℤ (c +ℤ d) ≡ a +ℤ c +ℤ (b +ℤ d)
    parts a b c d = omega (arith, ints)

back_part : (a b : ℤ) → b +ℤ (a -ℤ b) ≡ a
back_part a b = omega (arith, ints)

-- b added to a - b gives a
pub plus-minus : (a b : Cpx) → plus b (minus a b) ≡ a
plus-minus a b = pair (back_part a.re b.re) (back_part a.im b.im)

rest_part : (a b : ℤ) → a +ℤ b -ℤ a ≡ b
rest_part a b = omega (arith, ints)

pub minus-plus : (a b : Cpx) → minus (plus a b) a ≡ b
minus-plus a b = pair (rest_part a.re b.re) (rest_part a.im b.im)

-- ---- products

associates_re : (a b c d e f : ℤ) → (a *ℤ c -ℤ b *ℤ d) *ℤ e -ℤ (a *ℤ d +ℤ b *ℤ c) *ℤ f ≡ a *ℤ (c *ℤ e -ℤ d *ℤ f) -ℤ b *ℤ (c *ℤ f +ℤ d *ℤ e)
associates_re a b c d e f =
    let p = var a in
    let q = var b in
    let r = var c in
    let s = var d in
    let t = var e in
    let u = var f in
    same (ring.minus (ring.times (ring.minus (ring.times p r) (ring.times q s)) t) (ring.times (ring.plus (ring.times p s) (ring.times q r)) u))
    (ring.minus (ring.times p (ring.minus (ring.times r t) (ring.times s u))) (ring.times q (ring.plus (ring.times r u) (ring.times s t)))) (omega arith)

associates_im : (a b c d e f : ℤ) → (a *ℤ c -ℤ b *ℤ d) *ℤ f +ℤ (a *ℤ d +ℤ b *ℤ c) *ℤ e ≡ a *ℤ (c *ℤ f +ℤ d *ℤ e) +ℤ b *ℤ (c *ℤ e -ℤ d *ℤ f)
associates_im a b c d e f =
    let p = var a in
    let q = var b in
    let r = var c in
    let s = var d in
    let t = var e in
    let u = var f in
    same (ring.plus (ring.times (ring.minus (ring.times p r) (ring.times q s)) u) (ring.times (ring.plus (ring.times p s) (ring.times q r)) t))
    (ring.plus (ring.times p (ring.plus (ring.times r u) (ring.times s t))) (ring.times q (ring.minus (ring.times r t) (ring.times s u)))) (omega arith)

pub times-associates : (a b c : Cpx) → times (times a b) c ≡ times a (times b c)
times-associates a b c = pair (associates_re a.re a.im b.re b.im c.re c.im) (associates_im a.re a.im b.re b.im c.re c.im)

pub times-nothing : (a : Cpx) → times a nothing ≡ nothing
times-nothing a =
    let p = var a.re in
    let q = var a.im in
    pair (same (ring.minus (ring.times p (lit 0)) (ring.times q (lit 0))) (lit 0) (omega arith)) (same (ring.plus (ring.times p (lit 0)) (ring.times q (lit 0))) (lit 0) (omega arith))

minus_re : (a b c d e f : ℤ) → a *ℤ (c -ℤ e) -ℤ b *ℤ (d -ℤ f) ≡ a *ℤ c -ℤ b *ℤ d -ℤ (a *ℤ e -ℤ b *ℤ f)
minus_re a b c d e f =
    let p = var a in
    let q = var b in
    let r = var c in
    let s = var d in
    let t = var e in
    let u = var f in
    same (ring.minus (ring.times p (ring.minus r t)) (ring.times q (ring.minus s u)))
    (ring.minus (ring.minus (ring.times p r) (ring.times q s)) (ring.minus (ring.times p t) (ring.times q u))) (omega arith)

minus_im : (a b c d e f : ℤ) → a *ℤ (d -ℤ f) +ℤ b *ℤ (c -ℤ e) ≡ a *ℤ d +ℤ b *ℤ c -ℤ (a *ℤ f +ℤ b *ℤ e)
minus_im a b c d e f =
    let p = var a in
    let q = var b in
    let r = var c in
    let s = var d in
    let t = var e in
    let u = var f in
    same (ring.plus (ring.times p (ring.minus s u)) (ring.times q (ring.minus r t)))
    (ring.minus (ring.plus (ring.times p s) (ring.times q r)) (ring.plus (ring.times p u) (ring.times q t))) (omega arith)

pub times-minus : (a b c : Cpx) → times a (minus b c) ≡ minus (times a b) (times a c)
times-minus a b c = pair (minus_re a.re a.im b.re b.im c.re c.im) (minus_im a.re a.im b.re b.im c.re c.im)

conjugate_re : (a b c d : ℤ) → a *ℤ c -ℤ b *ℤ d ≡ a *ℤ c -ℤ neg_ℤ b *ℤ neg_ℤ d
conjugate_re a b c d =
    let p = var a in
    let q = var b in
    let r = var c in
    let s = var d in
    same (ring.minus (ring.times p r) (ring.times q s)) (ring.minus (ring.times p r) (ring.times (ring.minus_one q) (ring.minus_one s))) (omega arith)

conjugate_im : (a b c d : ℤ) → neg_ℤ (a *ℤ d +ℤ b *ℤ c) ≡ a *ℤ neg_ℤ d +ℤ neg_ℤ b *ℤ c
conjugate_im a b c d =
    let p = var a in
    let q = var b in
    let r = var c in
    let s = var d in
    same (ring.minus_one (ring.plus (ring.times p s) (ring.times q r))) (ring.plus (ring.times p (ring.minus_one s)) (ring.times (ring.minus_one q) r)) (omega arith)

pub conjugate-times : (a b : Cpx) → conjugate (times a b) ≡ times (conjugate a) (conjugate b)
conjugate-times a b = pair (conjugate_re a.re a.im b.re b.im) (conjugate_im a.re a.im b.re b.im)

negative_sum : (a b : ℤ) → neg_ℤ (a +ℤ b) ≡ neg_ℤ a +ℤ neg_ℤ b
negative_sum a b = omega (arith, ints)

pub conjugate-plus : (a b : Cpx) → conjugate (plus a b) ≡ plus (conjugate a) (conjugate b)
conjugate-plus a b = pair refl (negative_sum a.im b.im)

twice_negative : (a : ℤ) → neg_ℤ (neg_ℤ a) ≡ a
twice_negative a = omega (arith, ints)

pub conjugate_twice : (a : Cpx) → conjugate (conjugate a) ≡ a
conjugate_twice a = pair refl (twice_negative a.im)

-- ---- multiples

multiple_part : (n : ℕ) (a b : ℤ) → pos n *ℤ (a +ℤ b) ≡ pos n *ℤ a +ℤ pos n *ℤ b
multiple_part n a b = same (ring.times (lit n) (ring.plus (var a) (var b))) (ring.plus (ring.times (lit n) (var a)) (ring.times (lit n) (var b))) (omega arith)

pub multiple-plus : (n : ℕ) (a b : Cpx) → multiple n (plus a b) ≡ plus (multiple n a) (multiple n b)
multiple-plus n a b = pair (multiple_part n a.re b.re) (multiple_part n a.im b.im)

times-multiple_re : (n a b c d : ℤ) → a *ℤ (n *ℤ c) -ℤ b *ℤ (n *ℤ d) ≡ n *ℤ (a *ℤ c -ℤ b *ℤ d)
times-multiple_re n a b c d =
    let m = var n in
    let p = var a in
    let q = var b in
    let r = var c in
    let s = var d in
    same (ring.minus (ring.times p (ring.times m r)) (ring.times q (ring.times m s))) (ring.times m (ring.minus (ring.times p r) (ring.times q s))) (omega arith)

times-multiple_im : (n a b c d : ℤ) → a *ℤ (n *ℤ d) +ℤ b *ℤ (n *ℤ c) ≡ n *ℤ (a *ℤ d +ℤ b *ℤ c)
times-multiple_im n a b c d =
    let m = var n in
    let p = var a in
    let q = var b in
    let r = var c in
    let s = var d in
    same (ring.plus (ring.times p (ring.times m s)) (ring.times q (ring.times m r))) (ring.times m (ring.plus (ring.times p s) (ring.times q r))) (omega arith)

pub times-multiple : (n : ℕ) (a b : Cpx) → times a (multiple n b) ≡ multiple n (times a b)
times-multiple n a b = pair (times-multiple_re (pos n) a.re a.im b.re b.im) (times-multiple_im (pos n) a.re a.im b.re b.im)

pub multiple-times : (n : ℕ) (a b : Cpx) → times (multiple n a) b ≡ multiple n (times a b)
multiple-times n a b = times-commutes (multiple n a) b ∙ times-multiple n b a ∙ ap (multiple n) (times-commutes b a)

twice_part : (m n : ℕ) (a : ℤ) → pos m *ℤ (pos n *ℤ a) ≡ pos (m * n) *ℤ a
twice_part m n a = same (ring.times (lit m) (ring.times (lit n) (var a))) (ring.times (lit (m * n)) (var a)) (omega arith)

pub multiple_twice : (m n : ℕ) (a : Cpx) → multiple m (multiple n a) ≡ multiple (m * n) a
multiple_twice m n a = pair (twice_part m n a.re) (twice_part m n a.im)

sum_part : (m n : ℕ) (a : ℤ) → pos (m + n) *ℤ a ≡ pos m *ℤ a +ℤ pos n *ℤ a
sum_part m n a = same (ring.times (lit (m + n)) (var a)) (ring.plus (ring.times (lit m) (var a)) (ring.times (lit n) (var a))) (omega arith)

pub multiple_sum : (m n : ℕ) (a : Cpx) → multiple (m + n) a ≡ plus (multiple m a) (multiple n a)
multiple_sum m n a = pair (sum_part m n a.re) (sum_part m n a.im)

pub times_real : (n : ℕ) (z : Cpx) → times z (real n) ≡ multiple n z
times_real n z =
    let a = var z.re in
    let b = var z.im in
    pair (same (ring.minus (ring.times a (lit n)) (ring.times b (lit 0))) (ring.times (lit n) a) (omega arith)) (same (ring.plus (ring.times a (lit 0)) (ring.times b (lit n))) (ring.times (lit n) b) (omega arith))

conjugate_part : (n : ℕ) (a : ℤ) → neg_ℤ (pos n *ℤ a) ≡ pos n *ℤ neg_ℤ a
conjugate_part n a = same (ring.minus_one (ring.times (lit n) (var a))) (ring.times (lit n) (ring.minus_one (var a))) (omega arith)

pub conjugate-multiple : (n : ℕ) (a : Cpx) → conjugate (multiple n a) ≡ multiple n (conjugate a)
conjugate-multiple n a = pair refl (conjugate_part n a.im)

-- ---- sums

pub sum-times : (n : ℕ) (c : Cpx) (f : ℕ → Cpx) → complex_sum_below n (λ k. times c (f k)) ≡ times c (complex_sum_below n f)
unfolding sum_below
sum-times zero c f = sym (times-nothing c)
sum-times (suc n) c f = ap (λ (s : Cpx). plus s (times c (f n))) (sum-times n c f) ∙ sym (times-plus c (complex_sum_below n f) (f n))

pub sum-times_right : (n : ℕ) (f : ℕ → Cpx) (c : Cpx) → complex_sum_below n (λ k. times (f k) c) ≡ times (complex_sum_below n f) c
sum-times_right n f c =
    complex_sum_below_same n (λ k. times (f k) c) (λ k. times c (f k)) (λ k l. times-commutes (f k) c) ∙ sum-times n c f ∙ times-commutes c (complex_sum_below n f)

pub sum-multiple : (n m : ℕ) (f : ℕ → Cpx) → complex_sum_below n (λ k. multiple m (f k)) ≡ multiple m (complex_sum_below n f)
sum-multiple n m f = pair (sum_below_scaled n (pos m) (λ k. (f k).re)) (sum_below_scaled n (pos m) (λ k. (f k).im))

pub sum_zero : (n : ℕ) (f : ℕ → Cpx) → ((k : ℕ) → k < n → f k ≡ nothing) → complex_sum_below n f ≡ nothing
unfolding sum_below
sum_zero zero f h = refl
sum_zero (suc n) f h = ap₂ plus (sum_zero n f (λ k l. h k (omega arith))) (h n (omega arith)) ∙ plus-nothing nothing

-- a sum with a single nonzero term
pub sum_of_one : (n i : ℕ) (f : ℕ → Cpx) → i < n → ((k : ℕ) → k < n → k ≢ i → f k ≡ nothing) → complex_sum_below n f ≡ f i
unfolding sum_below
sum_of_one zero i f l h = absurd (omega arith)
sum_of_one (suc n) i f l h = elim (cases_lt i n) [
  | inl lower ↦ ap₂ plus (sum_of_one n i f lower (λ k p q. h k (omega arith) q)) (h n (omega arith) (omega arith)) ∙ plus-nothing_right (f i)
  | inr here ↦ let e : n ≡ i = omega arith in
      ap₂ plus (sum_zero n f (λ k p. h k (omega arith) (omega arith))) (ap f e) ∙ plus-nothing (f i)
]
