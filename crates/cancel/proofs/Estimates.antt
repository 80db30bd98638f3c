-- A gain estimated by correlation with a known signal.
use Rattle.std.proofs.Common.{◌≡◌, ℕ, ◌+◌, ◌*◌, ◌≤◌, inl, inr, arith, refl, ap, sym, ◌∙◌, ℤ, pos, ◌+ℤ◌, ◌-ℤ◌, ◌*ℤ◌, nat_abs, mul-le-mul_left, mul-le-mul_right}
use Rattle.std.proofs.lemmas.Int.{ints}
use Rattle.std.proofs.lemmas.Bool.{cases_lt}
use Rattle.finite.proofs.Sums.{total_below-within}
use Rattle.finite.proofs.Ring.{Is, var, lit, same}
use Rattle.finite.proofs.Ring as ring
use Rattle.cs_num.specs.declared.Cpx.{Cpx}
use Rattle.cs_num.specs.Complex.{plus, times, minus, multiple, square}
use Rattle.cs_num.specs.Rounding.{rounded_quotient, quotient}
use Rattle.cs_num.proofs.Rounding.{quotient-near}
use Rattle.cs_num.proofs.Complex.{pair, square-within}
use Rattle.norms.specs.Magnitudes.{energy_below, correlation_below}
use Rattle.norms.proofs.Algebra.{plus-minus, times_real}
use Rattle.norms.proofs.Squares.{square-multiple}
use Rattle.norms.proofs.TwoTerms.{weighted}
use Rattle.norms.proofs.Cauchy.{cauchy, correlation_same, correlation_gain}
use Rattle.norms.proofs.Gram.{correlation_self}
use Rattle.cancel.specs.Gain.{estimate}
use Rattle.cancel.specs.Laws.{IsGainSeen, EstimateIsNear, GainIsCandidate}

-- ---- the distance

-- for z = h g + c, 2h times the difference between g and the quotient is the rounding error on 2z, minus 2c
distance_part : (h : ℕ) (g c q z : ℤ) → z ≡ pos h *ℤ g +ℤ c → pos (2 * h) *ℤ (g -ℤ q) ≡ pos 2 *ℤ z -ℤ pos (2 * h) *ℤ q -ℤ pos 2 *ℤ c
distance_part h g c q z e =
    same (ring.times (lit (2 * h)) (ring.minus (var g) (var q)))
    (ring.minus (ring.minus (ring.times (lit 2) (ring.plus (ring.times (lit h) (var g)) (var c))) (ring.times (lit (2 * h)) (var q))) (ring.times (lit 2) (var c))) (omega arith)
    ∙ ap (λ (y : ℤ). pos 2 *ℤ y -ℤ pos (2 * h) *ℤ q -ℤ pos 2 *ℤ c) (sym e)

distance_is : (h : ℕ) (g c z : Cpx) → z ≡ plus (multiple h g) c →
    multiple (2 * h) (minus g (quotient z h)) ≡ minus (minus (multiple 2 z) (multiple (2 * h) (quotient z h))) (multiple 2 c)
distance_is h g c z e = pair (distance_part h g.re c.re (rounded_quotient z.re h) z.re (ap (λ (x : Cpx). x.re) e)) (distance_part h g.im c.im (rounded_quotient z.im h) z.im (ap (λ (x : Cpx). x.im) e))

-- |x - y|^2 is at most 2 |x|^2 + 2 |y|^2
less_or_more : (a : ℤ) → nat_abs (pos 0 -ℤ a) ≡ nat_abs a
less_or_more a = omega (arith, ints)

minus_part : (a b : ℤ) → a +ℤ (pos 0 -ℤ b) ≡ a -ℤ b
minus_part a b = omega (arith, ints)

opposite : Cpx → Cpx
opposite y = record { re = pos 0 -ℤ y.re; im = pos 0 -ℤ y.im }

square-opposite : (y : Cpx) → square (opposite y) ≡ square y
unfolding opposite
square-opposite y = rw (less_or_more y.re, less_or_more y.im) refl

plus-opposite : (x y : Cpx) → plus x (opposite y) ≡ minus x y
unfolding opposite
plus-opposite x y = pair (minus_part x.re y.re) (minus_part x.im y.im)

square-minus : (x y : Cpx) → square (minus x y) ≤ 2 * square x + 2 * square y
square-minus x y =
    sums (square (minus x y)) (square (plus x (opposite y))) (square x) (square y) (square (opposite y)) (ap (λ (z : Cpx). square z) (plus-opposite x y)) (square-opposite y) (weighted 1 x (opposite y))
  where
    sums : (s t a b c : ℕ) → t ≡ s → c ≡ b → 1 * t ≤ (1 + 1) * a + 1 * (1 + 1) * c → s ≤ 2 * a + 2 * b
    sums s t a b c e f h = omega (arith, e, f, h)

-- 4 h^2 s is at most 8 |c|^2 + 4 h^2, and |c|^2 at most 802816 h, so s is at most 1
one_beside : (h n c s : ℕ) → 1990000 ≤ h → n ≤ 784 → c ≤ 1024 * n * h → 2 * h * (2 * h) * s ≤ 2 * (2 * (h * h)) + 2 * (2 * 2 * c) → s ≤ 1
one_beside h n c s power small off far = elim (cases_lt s 2) [
  | inl less ↦ omega (arith, less)
  | inr more ↦ absurd (
      let a : h * h * 2 ≤ h * h * s = mul-le-mul_left (h * h) more in
      let b : h * 1990000 ≤ h * h = mul-le-mul_left h power in
      let d : 1024 * n * h ≤ 1024 * 784 * h = mul-le-mul_right h (omega (arith, small)) in
      omega (arith, far, a, b, d, off, power))
]

near_quotient : (h n : ℕ) (g c z : Cpx) → 1990000 ≤ h → n ≤ 784 → square c ≤ 1024 * n * h → z ≡ plus (multiple h g) c → square (minus g (quotient z h)) ≤ 1
near_quotient h n g c z power small off whole =
    one_beside h n (square c) (square d) power small off
    (sums (square (multiple (2 * h) d)) (square (minus w (multiple 2 c))) (square w) (square (multiple 2 c)) (square-multiple (2 * h) d) (ap (λ (x : Cpx). square x) (distance_is h g c z whole))
    (square-minus w (multiple 2 c)) (square-within w h (quotient-near z h (omega (arith, power)))) (square-multiple 2 c))
  where
    d : Cpx
    d = minus g (quotient z h)

    w : Cpx
    w = minus (multiple 2 z) (multiple (2 * h) (quotient z h))

    sums : (s t a b : ℕ) → s ≡ 2 * h * (2 * h) * square d → s ≡ t → t ≤ 2 * a + 2 * b → a ≤ 2 * (h * h) → b ≡ 2 * 2 * square c → 2 * h * (2 * h) * square d ≤ 2 * (2 * (h * h)) + 2 * (2 * 2 * square c)
    sums s t a b e f k l j = omega (arith, e, f, k, l, j)

-- ---- the correlation

error : Cpx → (ℕ → Cpx) → (ℕ → Cpx) → ℕ → Cpx
error g p r n = minus (r n) (times g (p n))

correlation_is : (g : Cpx) (p r : ℕ → Cpx) → correlation_below 128 r p ≡ plus (multiple (energy_below 128 p) g) (correlation_below 128 (error g p r) p)
unfolding error
correlation_is g p r =
    correlation_same 128 r (λ k. plus (times g (p k)) (error g p r k)) p p (λ k l. sym (plus-minus (r k) (times g (p k)))) (λ k l. refl)
    ∙ correlation_gain 128 g p (error g p r) p
    ∙ ap (λ (z : Cpx). plus z (correlation_below 128 (error g p r) p)) (ap (times g) (correlation_self 128 p) ∙ times_real (energy_below 128 p) g)

errors_small : (eps : ℕ) (g : Cpx) (p r : ℕ → Cpx) → IsGainSeen eps g r p → energy_below 128 (error g p r) ≤ 1024 * square g
unfolding error
errors_small eps g p r seen =
    sums (energy_below 128 (error g p r)) (square g) (total_below-within 128 (8 * square g) (λ k. square (error g p r k))
    (λ k l. bound (square (error g p r k)) (square g) (square-within (minus (r k) (times g (p k))) eps (seen.near k l)) seen.quiet))
  where
    bound : (s n : ℕ) → s ≤ 2 * (eps * eps) → eps * eps ≤ 4 * n → s ≤ 8 * n
    bound s n h q = omega (arith, h, q)

    sums : (e n : ℕ) → e ≤ 128 * (8 * n) → e ≤ 1024 * n
    sums e n h = omega (arith, h)

pub estimate_is_near : EstimateIsNear
estimate_is_near eps gain samples signal seen =
    near_quotient (energy_below 128 signal) (square gain) gain (correlation_below 128 (error gain signal samples) signal) (correlation_below 128 samples signal) seen.power seen.range.most
    (product (square (correlation_below 128 (error gain signal samples) signal)) (energy_below 128 (error gain signal samples)) (cauchy 128 (error gain signal samples) signal) (errors_small eps gain signal samples seen))
    (correlation_is gain signal samples)
  where
    product : (c e : ℕ) → c ≤ e * energy_below 128 signal → e ≤ 1024 * square gain → c ≤ 1024 * square gain * energy_below 128 signal
    product c e h k =
        let m : e * energy_below 128 signal ≤ 1024 * square gain * energy_below 128 signal = mul-le-mul_right (energy_below 128 signal) k in
        omega (arith, h, m)

pub gain_is_candidate : GainIsCandidate
gain_is_candidate eps gain samples signal seen = record { range = seen.range; near = wider (square (minus gain (estimate samples signal))) (estimate_is_near eps gain samples signal seen) }
  where
    wider : (s : ℕ) → s ≤ 1 → s ≤ 4
    wider s h = omega (arith, h)
