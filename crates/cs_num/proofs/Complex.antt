-- Component bounds of complex integers, and their ring laws.
use Rattle.std.proofs.Common.{◌≡◌, ℕ, ◌+◌, ◌*◌, ◌≤◌, arith, ℤ, pos, ◌+ℤ◌, ◌-ℤ◌, ◌*ℤ◌, ap₂, ◌∙◌}
use Rattle.std.proofs.lemmas.Int.{ints}
use Rattle.std.proofs.lemmas.Nat.{mul-le}
use Rattle.std.specs.Prelude.{nat_abs}
use Rattle.finite.proofs.Integers.{abs-sum, abs-difference, product_within}
use Rattle.finite.proofs.Ring.{Is, var, lit, same}
use Rattle.finite.proofs.Ring as ring
use Rattle.cs_num.specs.declared.Cpx.{Cpx}
use Rattle.cs_num.specs.Complex.{IsWithin, largest_part, nothing, plus, minus, multiple, times, times_j, conjugate, square}

-- complex numbers with equal components are equal
pub pair : {x y u v : ℤ} → x ≡ y → u ≡ v → ◌≡◌ {A = Cpx} (record { re = x; im = u }) (record { re = y; im = v })
pair e f = cc

-- ---- bounds on components

pub largest_part-le : (a : Cpx) (bound : ℕ) → IsWithin bound a → largest_part a ≤ bound
largest_part-le a bound h = omega arith

pub within_more : (a : Cpx) (m n : ℕ) → IsWithin m a → m ≤ n → IsWithin n a
within_more a m n p h = record { re = omega arith; im = omega arith }

pub plus-within : (a b : Cpx) (m n bound : ℕ) → IsWithin m a → IsWithin n b → m + n ≤ bound → IsWithin bound (plus a b)
plus-within a b m n bound p q e = record {
  re = omega (arith, p.re, q.re, abs-sum a.re b.re);
  im = omega (arith, p.im, q.im, abs-sum a.im b.im);
}

pub minus-within : (a b : Cpx) (m n bound : ℕ) → IsWithin m a → IsWithin n b → m + n ≤ bound → IsWithin bound (minus a b)
minus-within a b m n bound p q e = record {
  re = omega (arith, p.re, q.re, abs-difference a.re b.re);
  im = omega (arith, p.im, q.im, abs-difference a.im b.im);
}

pub times_j-within : (a : Cpx) (m : ℕ) → IsWithin m a → IsWithin m (times_j a)
times_j-within a m p = record { re = omega (arith, ints, p.im); im = p.re }

pub conjugate-within : (a : Cpx) (m : ℕ) → IsWithin m a → IsWithin m (conjugate a)
conjugate-within a m p = record { re = p.re; im = omega (arith, ints, p.im) }

pub multiple-within : (n : ℕ) (a : Cpx) (m : ℕ) → IsWithin m a → IsWithin (n * m) (multiple n a)
multiple-within n a m p = record {
  re = product_within (pos n) a.re n m (n * m) (omega arith) p.re (omega arith);
  im = product_within (pos n) a.im n m (n * m) (omega arith) p.im (omega arith);
}

pub times-within : (a b : Cpx) (m n bound : ℕ) → IsWithin m a → IsWithin n b → m * n ≤ bound → IsWithin (2 * bound) (times a b)
times-within a b m n bound p q e =
    let rr = product_within a.re b.re m n bound p.re q.re e in
    let ii = product_within a.im b.im m n bound p.im q.im e in
    let ri = product_within a.re b.im m n bound p.re q.im e in
    let ir = product_within a.im b.re m n bound p.im q.re e in
    record {
      re = omega (arith, abs-difference (a.re *ℤ b.re) (a.im *ℤ b.im));
      im = omega (arith, abs-sum (a.re *ℤ b.im) (a.im *ℤ b.re));
    }

pub square-within : (a : Cpx) (m : ℕ) → IsWithin m a → square a ≤ 2 * (m * m)
square-within a m p = omega (arith, mul-le (nat_abs a.re) (nat_abs a.re) m m p.re p.re, mul-le (nat_abs a.im) (nat_abs a.im) m m p.im p.im)

-- ---- ring laws

pub plus-nothing : (a : Cpx) → plus nothing a ≡ a
plus-nothing a =
    let re : pos 0 +ℤ a.re ≡ a.re = omega (arith, ints) in
    let im : pos 0 +ℤ a.im ≡ a.im = omega (arith, ints) in
    pair re im

pub plus-associates : (a b c : Cpx) → plus (plus a b) c ≡ plus a (plus b c)
plus-associates a b c =
    let re : a.re +ℤ b.re +ℤ c.re ≡ a.re +ℤ (b.re +ℤ c.re) = omega (arith, ints) in
    let im : a.im +ℤ b.im +ℤ c.im ≡ a.im +ℤ (b.im +ℤ c.im) = omega (arith, ints) in
    pair re im

pub plus-commutes : (a b : Cpx) → plus a b ≡ plus b a
plus-commutes a b =
    let re : a.re +ℤ b.re ≡ b.re +ℤ a.re = omega (arith, ints) in
    let im : a.im +ℤ b.im ≡ b.im +ℤ a.im = omega (arith, ints) in
    pair re im

distributes_re : (a b c d e f : ℤ) → a *ℤ (b +ℤ c) -ℤ d *ℤ (e +ℤ f) ≡ a *ℤ b -ℤ d *ℤ e +ℤ (a *ℤ c -ℤ d *ℤ f)
distributes_re a b c d e f =
    same
    (ring.minus (ring.times (var a) (ring.plus (var b) (var c))) (ring.times (var d) (ring.plus (var e) (var f))))
    (ring.plus (ring.minus (ring.times (var a) (var b)) (ring.times (var d) (var e))) (ring.minus (ring.times (var a) (var c)) (ring.times (var d) (var f))))
    (omega arith)

distributes_im : (a b c d e f : ℤ) → a *ℤ (b +ℤ c) +ℤ d *ℤ (e +ℤ f) ≡ a *ℤ b +ℤ d *ℤ e +ℤ (a *ℤ c +ℤ d *ℤ f)
distributes_im a b c d e f =
    same
    (ring.plus (ring.times (var a) (ring.plus (var b) (var c))) (ring.times (var d) (ring.plus (var e) (var f))))
    (ring.plus (ring.plus (ring.times (var a) (var b)) (ring.times (var d) (var e))) (ring.plus (ring.times (var a) (var c)) (ring.times (var d) (var f))))
    (omega arith)

pub times-plus : (a b c : Cpx) → times a (plus b c) ≡ plus (times a b) (times a c)
times-plus a b c = pair (distributes_re a.re b.re c.re a.im b.im c.im) (distributes_im a.re b.im c.im a.im b.re c.re)

commutes_re : (a b c d : ℤ) → a *ℤ b -ℤ c *ℤ d ≡ b *ℤ a -ℤ d *ℤ c
commutes_re a b c d = same (ring.minus (ring.times (var a) (var b)) (ring.times (var c) (var d))) (ring.minus (ring.times (var b) (var a)) (ring.times (var d) (var c))) (omega arith)

commutes_im : (a b c d : ℤ) → a *ℤ d +ℤ c *ℤ b ≡ b *ℤ c +ℤ d *ℤ a
commutes_im a b c d = same (ring.plus (ring.times (var a) (var d)) (ring.times (var c) (var b))) (ring.plus (ring.times (var b) (var c)) (ring.times (var d) (var a))) (omega arith)

pub times-commutes : (a b : Cpx) → times a b ≡ times b a
times-commutes a b = pair (commutes_re a.re b.re a.im b.im) (commutes_im a.re b.re a.im b.im)

pub times-plus_left : (a b c : Cpx) → times (plus a b) c ≡ plus (times a c) (times b c)
times-plus_left a b c = times-commutes (plus a b) c ∙ times-plus c a b ∙ ap₂ plus (times-commutes c a) (times-commutes c b)
