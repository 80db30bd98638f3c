-- The error in the product of two received numbers, in units of the gain: one is the gain times a number, the other a
-- multiple of the gain, and each has an error.
use Rattle.std.proofs.Common.{◌≡◌, ℕ, ◌+◌, ◌*◌, ◌≤◌, ℤ, pos, ◌-ℤ◌, ◌*ℤ◌, ap, ap₂, sym, ◌∙◌, subst, arith, mul-le-mul_left}
use Rattle.std.proofs.lemmas.Int.{unsigned_abs-mul}
use Rattle.std.specs.Prelude.{nat_abs}
use Rattle.finite.proofs.Ring.{var, lit, same}
use Rattle.finite.proofs.Ring as ring
use Rattle.cs_num.specs.declared.Cpx.{Cpx}
use Rattle.cs_num.specs.Complex.{IsWithin, plus, times, conjugate, square, minus, multiple}
use Rattle.cs_num.proofs.Complex.{plus-associates, times-plus, times-commutes, times-plus_left}
use Rattle.norms.specs.Magnitudes.{IsBounded}
use Rattle.norms.proofs.Algebra.{minus-plus, times-associates, times-multiple, times_real, multiple_twice, conjugate-plus, conjugate-multiple}
use Rattle.norms.proofs.Squares.{abs_square, times_conjugate, square-multiple}
use Rattle.norms.proofs.Bounded.{sized_gain, sized_plain, bounded-plus, bounded-times, bounded-conjugate, sized_re, sized_im}

pub bounded-multiple : (m : ℕ) (x : Cpx) (a n : ℕ) → IsBounded a n x → IsBounded (m * a) n (multiple m x)
bounded-multiple m x a n p = record { bounded = rw (square-multiple m x) (larger m a n (square x) p.bounded) }
  where
    larger : (m a n s : ℕ) → s ≤ a * a * n → m * m * s ≤ m * a * (m * a) * n
    larger m a n s h =
        let k : m * m * s ≤ m * m * (a * a * n) = mul-le-mul_left (m * m) h in
        omega (arith, k)

-- g a conj g = |g|^2 a
pub turned_back : (g a : Cpx) → times (times g a) (conjugate g) ≡ multiple (square g) a
turned_back g a = ap (λ (z : Cpx). times z (conjugate g)) (times-commutes g a) ∙ times-associates a g (conjugate g) ∙ ap (times a) (times_conjugate g) ∙ times_real (square g) a

main_part : (g a : Cpx) (c : ℕ) → times (times g a) (conjugate (multiple c g)) ≡ multiple (c * square g) a
main_part g a c =
    ap (times (times g a)) (conjugate-multiple c g) ∙ times-multiple c (times g a) (conjugate g) ∙ ap (multiple c) (turned_back g a) ∙ multiple_twice c (square g) a

opened : (x d y h : Cpx) → times (plus x d) (conjugate (plus y h)) ≡ plus (times x (conjugate y)) (plus (times x (conjugate h)) (times d (conjugate (plus y h))))
opened x d y h =
    times-plus_left x d (conjugate (plus y h))
    ∙ ap (λ (z : Cpx). plus z (times d (conjugate (plus y h)))) (ap (times x) (conjugate-plus y h) ∙ times-plus x (conjugate y) (conjugate h))
    ∙ plus-associates (times x (conjugate y)) (times x (conjugate h)) (times d (conjugate (plus y h)))

-- (g a + d) conj (c g + h) is within (m t + s (c + t)) |g|^2 of c |g|^2 a in each component, if |a| ≤ m, |d| ≤ s |g|
-- and |h| ≤ t |g|
pub product_near : (g a d h : Cpx) (c m s t : ℕ) → square a ≤ m * m → IsBounded s (square g) d → IsBounded t (square g) h →
    IsWithin ((m * t + s * (c + t)) * square g) (minus (times (plus (times g a) d) (conjugate (plus (multiple c g) h))) (multiple (c * square g) a))
product_near g a d h c m s t small p q =
    subst (IsWithin ((m * t + s * (c + t)) * n)) (sym rest) (record { re = sized_re e (m * t + s * (c + t)) n bounded; im = sized_im e (m * t + s * (c + t)) n bounded })
  where
    n : ℕ
    n = square g

    x : Cpx
    x = times g a

    y : Cpx
    y = multiple c g

    e : Cpx
    e = plus (times x (conjugate h)) (times d (conjugate (plus y h)))

    rest : minus (times (plus x d) (conjugate (plus y h))) (multiple (c * n) a) ≡ e
    rest = ap (λ (z : Cpx). minus z (multiple (c * n) a)) (opened x d y h ∙ ap (λ (z : Cpx). plus z e) (main_part g a c)) ∙ minus-plus (multiple (c * n) a) e

    once : (c : ℕ) → c * 1 ≡ c
    once c = omega arith

    product : (m : ℕ) → 1 * m ≡ m
    product m = omega arith

    x_sized : IsBounded m n x
    x_sized = subst (λ (k : ℕ). IsBounded k n x) (product m) (subst (λ (k : ℕ). IsBounded (1 * m) k x) (once n) (bounded-times g a 1 m n 1 (sized_gain g) (sized_plain a m small)))

    y_sized : IsBounded c n y
    y_sized = subst (λ (k : ℕ). IsBounded k n y) (once c) (bounded-multiple c g 1 n (sized_gain g))

    bounded : IsBounded (m * t + s * (c + t)) (n * n) e
    bounded = bounded-plus (times x (conjugate h)) (times d (conjugate (plus y h))) (m * t) (s * (c + t)) (n * n)
        (bounded-times x (conjugate h) m t n n x_sized (bounded-conjugate h t n q))
        (bounded-times d (conjugate (plus y h)) s (c + t) n n p (bounded-conjugate (plus y h) (c + t) n (bounded-plus y h c t n y_sized q)))

-- ---- signs

square_of_sign : (s : ℤ) → nat_abs s ≡ 1 → s *ℤ s ≡ pos 1
square_of_sign s e = abs_square s ∙ ap pos (ap₂ (λ m n. m * n) e e)

spread : (s z x : ℤ) → s *ℤ (z -ℤ x *ℤ s) ≡ s *ℤ z -ℤ s *ℤ s *ℤ x
spread s z x =
    let a = var s in
    let b = var z in
    let c = var x in
    same (ring.times a (ring.minus b (ring.times c a))) (ring.minus (ring.times a b) (ring.times (ring.times a a) c)) (omega arith)

pub one-times : (x : ℤ) → pos 1 *ℤ x ≡ x
one-times x = same (ring.times (lit 1) (var x)) (var x) (omega arith)

-- if z is near x times a sign, the sign times z is near x
pub sign-turns : (s z x : ℤ) (k : ℕ) → nat_abs s ≡ 1 → nat_abs (z -ℤ x *ℤ s) ≤ k → nat_abs (s *ℤ z -ℤ x) ≤ k
sign-turns s z x k unit h =
    let e : s *ℤ (z -ℤ x *ℤ s) ≡ s *ℤ z -ℤ x = spread s z x ∙ ap (λ y. s *ℤ z -ℤ y) (ap (λ y. y *ℤ x) (square_of_sign s unit) ∙ one-times x) in
    subst (λ y. nat_abs y ≤ k) e (kept (nat_abs (s *ℤ (z -ℤ x *ℤ s))) (nat_abs s) (nat_abs (z -ℤ x *ℤ s)) (unsigned_abs-mul s (z -ℤ x *ℤ s)) unit h)
  where
    kept : (a b c : ℕ) → a ≡ b * c → b ≡ 1 → c ≤ k → a ≤ k
    kept a b c e f l = let g : b * c ≡ 1 * c = ap (λ m. m * c) f in omega (arith, e, g, l)
