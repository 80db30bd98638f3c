-- Magnitudes in units of a gain.
use Rattle.std.proofs.Common.{◌≡◌, ℕ, zero, suc, ◌+◌, ◌*◌, ◌<◌, ◌≤◌, arith, mul-le-mul, mul-le-mul_left, mul-le-mul_right}
use Rattle.std.specs.Prelude.{nat_abs}
use Rattle.finite.specs.Sums.{sum_below, total_below}
use Rattle.finite.proofs.Sums.{total_below-within}
use Rattle.cs_num.specs.declared.Cpx.{Cpx}
use Rattle.cs_num.specs.Complex.{plus, times, conjugate, square}
use Rattle.cs_num.specs.Sums.{complex_sum_below}
use Rattle.norms.specs.Magnitudes.{IsBounded}
use Rattle.norms.proofs.Squares.{square-times, square-conjugate, re-le, im-le}
use Rattle.norms.proofs.TwoTerms.{two_term_cauchy}

sums : (a b n s : ℕ) → s ≤ (a + b) * (a * n + b * n) → s ≤ (a + b) * (a + b) * n
sums a b n s h = omega (arith, h)

first_form : (a n s : ℕ) → s ≤ a * a * n → s ≤ a * (a * n)
first_form a n s h = omega (arith, h)

pub bounded-plus : (x y : Cpx) (a b n : ℕ) → IsBounded a n x → IsBounded b n y → IsBounded (a + b) n (plus x y)
bounded-plus x y a b n p q = record { bounded = sums a b n (square (plus x y)) (two_term_cauchy x y a (a * n) b (b * n) (first_form a n (square x) p.bounded) (first_form b n (square y) q.bounded)) }

product : (a b m n s x y : ℕ) → s ≡ x * y → x ≤ a * a * m → y ≤ b * b * n → s ≤ (a * b) * (a * b) * (m * n)
product a b m n s x y e p q =
    let k : x * y ≤ (a * a * m) * (b * b * n) = mul-le-mul p q in
    omega (arith, e, k)

pub bounded-times : (x y : Cpx) (a b m n : ℕ) → IsBounded a m x → IsBounded b n y → IsBounded (a * b) (m * n) (times x y)
bounded-times x y a b m n p q = record { bounded = product a b m n (square (times x y)) (square x) (square y) (square-times x y) p.bounded q.bounded }

pub bounded-conjugate : (x : Cpx) (a n : ℕ) → IsBounded a n x → IsBounded a n (conjugate x)
bounded-conjugate x a n p = record { bounded = rw (square-conjugate x) p.bounded }

-- a gain has magnitude 1 in its own unit
pub sized_gain : (g : Cpx) → IsBounded 1 (square g) g
sized_gain g = record { bounded = once (square g) }
  where
    once : (n : ℕ) → n ≤ 1 * 1 * n
    once n = omega arith

-- a number whose magnitude is at most a, in units of 1
pub sized_plain : (x : Cpx) (a : ℕ) → square x ≤ a * a → IsBounded a 1 x
sized_plain x a h = record { bounded = once (square x) a h }
  where
    once : (s a : ℕ) → s ≤ a * a → s ≤ a * a * 1
    once s a h = omega (arith, h)

more : (a b n s : ℕ) → a ≤ b → s ≤ a * a * n → s ≤ b * b * n
more a b n s l h =
    let k : a * a * n ≤ b * b * n = mul-le-mul_right n (mul-le-mul l l) in
    omega (arith, h, k)

pub sized_more : (x : Cpx) (a b n : ℕ) → a ≤ b → IsBounded a n x → IsBounded b n x
sized_more x a b n l p = record { bounded = more a b n (square x) l p.bounded }

-- a bound in units of 1 is also one in units of any nonzero gain
pub sized_any : (x : Cpx) (a n : ℕ) → 1 ≤ n → IsBounded a 1 x → IsBounded a n x
sized_any x a n l p = record { bounded = wider a n (square x) l p.bounded }
  where
    wider : (a n s : ℕ) → 1 ≤ n → s ≤ a * a * 1 → s ≤ a * a * n
    wider a n s l h =
        let k : a * a * 1 ≤ a * a * n = mul-le-mul_left (a * a) l in
        omega (arith, h, k)

-- a sum whose terms are bounded one by one
pub bounded-sum_by : (n : ℕ) (f : ℕ → Cpx) (a : ℕ → ℕ) (m : ℕ) → ((k : ℕ) → k < n → IsBounded (a k) m (f k)) → IsBounded (total_below n a) m (complex_sum_below n f)
unfolding sum_below total_below
bounded-sum_by zero f a m h = record { bounded = omega arith }
bounded-sum_by (suc n) f a m h =
    bounded-plus (complex_sum_below n f) (f n) (total_below n a) (a n) m (bounded-sum_by n f a m (λ k l. h k (omega arith))) (h n (omega arith))

pub bounded-sum : (n : ℕ) (f : ℕ → Cpx) (a m : ℕ) → ((k : ℕ) → k < n → IsBounded a m (f k)) → IsBounded (n * a) m (complex_sum_below n f)
bounded-sum n f a m h =
    sized_more (complex_sum_below n f) (total_below n (λ _. a)) (n * a) m (total_below-within n a (λ _. a) (λ k l. omega arith)) (bounded-sum_by n f (λ _. a) m h)

rooted : (a n s : ℕ) → s ≤ a * a * (n * n) → s ≤ (a * n) * (a * n)
rooted a n s h = omega (arith, h)

-- if the unit is n, the components are at most a * n
pub sized_re : (z : Cpx) (a n : ℕ) → IsBounded a (n * n) z → nat_abs z.re ≤ a * n
sized_re z a n p = re-le z (a * n) (rooted a n (square z) p.bounded)

pub sized_im : (z : Cpx) (a n : ℕ) → IsBounded a (n * n) z → nat_abs z.im ≤ a * n
sized_im z a n p = im-le z (a * n) (rooted a n (square z) p.bounded)
