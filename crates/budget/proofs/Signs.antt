-- When a soft value supports a bit: six times the component outweighs the energy.
use Rattle.std.proofs.Common.{◌≡◌, ℕ, zero, suc, ◌+◌, ◌*◌, ◌/◌, ◌<◌, ◌≤◌, min, arith, refl, ap, sym, ◌∙◌, subst, Bool, true, false, nat_eq, inl, inr, ℤ, pos, negsuc, neg_ℤ, ◌-ℤ◌, ◌*ℤ◌, ◌≤ℤ◌, int_div}
use Rattle.std.specs.Prelude.{nat_abs}
use Rattle.std.proofs.lemmas.Int.{ints}
use Rattle.std.proofs.lemmas.Nat.{mul-le}
use Rattle.std.proofs.lemmas.Bool.{cases_lt}
use Rattle.std.proofs.lemmas.Bool.Decides.{nat_tests}
use Rattle.std.proofs.Math.Nat.{div-lt_iff_lt-mul, le_of_mul-le-mul_left}
use Rattle.finite.proofs.Ring.{var, lit, same}
use Rattle.finite.proofs.Ring as ring
use Rattle.cs_num.specs.Rounding.{clamped}
use Rattle.cs_bits.specs.Signs.{Supports}
use Rattle.norms.proofs.Products.{sign-turns, one-times}
use Rattle.crs.specs.Qpsk.{component}
use Rattle.soft_bits.specs.Soft.{soft_value}
use Rattle.budget.specs.Sign.{sign, LargeComponentSpeaks, NearComponentSpeaks}

-- ---- a value of magnitude at least m

value_is : (c : ℤ) (q : ℕ) → 1 ≤ q → soft_value c q ≡ clamped (int_div (pos 6 *ℤ c) (pos q)) 127
value_is c q some = let e : nat_eq q 0 ≡ false = grind (arith, nat_tests) in rw e refl

opposite : (c : ℤ) → pos 6 *ℤ (negsuc 0 *ℤ c) ≡ neg_ℤ (pos 6 *ℤ c)
opposite c = same (ring.times (lit 6) (ring.times (ring.minus_one (lit 1)) (var c))) (ring.minus_one (ring.times (lit 6) (var c))) (omega arith)

turned : (x : ℤ) (k : ℕ) → pos k ≤ℤ neg_ℤ x → x ≤ℤ neg_ℤ (pos k)
turned x k h = omega (arith, ints)

module _ (m : ℕ) (some_size : 1 ≤ m) (below : m ≤ 127) where
  quotient-least : (a q : ℕ) → 0 < q → m * q ≤ a → m ≤ a / q
  quotient-least a q some h = elim (cases_lt (a / q) m) [
    | inl less ↦ absurd (let k : a < m * q = (div-lt_iff_lt-mul some).0 less in omega (arith, h, k))
    | inr enough ↦ enough
  ]

  positive : (q : ℕ) → 0 < q → 1 ≤ m * q
  positive q some = grind arith

  clamped_high : (x : ℤ) (q : ℕ) → 0 < q → pos (m * q) ≤ℤ x → pos m ≤ℤ clamped (int_div x (pos q)) 127
  clamped_high (pos a) q some h = let k = quotient-least a q some (omega (arith, ints)) in omega (arith, ints, k, below)
  clamped_high (negsuc a) q some h = absurd (omega (arith, ints))

  clamped_negative : (k : ℕ) → m ≤ k → clamped (neg_ℤ (pos k)) 127 ≤ℤ neg_ℤ (pos m)
  clamped_negative zero h = absurd (omega (arith, h, some_size))
  clamped_negative (suc k) h = least (min (k + 1) 127) (omega (arith, h, below))
    where
      least : (j : ℕ) → m ≤ j → neg_ℤ (pos j) ≤ℤ neg_ℤ (pos m)
      least j l = omega (arith, ints)

  clamped_low : (x : ℤ) (q : ℕ) → 0 < q → x ≤ℤ neg_ℤ (pos (m * q)) → clamped (int_div x (pos q)) 127 ≤ℤ neg_ℤ (pos m)
  clamped_low (pos a) q some h = absurd (let p = positive q some in omega (arith, ints, p))
  clamped_low (negsuc a) q some h = clamped_negative (suc a / q) (quotient-least (suc a) q some (omega (arith, ints)))

  speaks : (q : ℕ) (bit : Bool) (c : ℤ) → 1 ≤ q → pos (m * q) ≤ℤ (pos 6 *ℤ (sign bit *ℤ c)) → Supports m bit (soft_value c q)
  speaks q false c some h = subst (λ v. pos m ≤ℤ v) (sym (value_is c q some)) (clamped_high (pos 6 *ℤ c) q some (subst (λ v. pos (m * q) ≤ℤ (pos 6 *ℤ v)) (one-times c) h))
  speaks q true c some h = subst (λ v. v ≤ℤ neg_ℤ (pos m)) (sym (value_is c q some)) (clamped_low (pos 6 *ℤ c) q some (turned (pos 6 *ℤ c) (m * q) (subst (λ v. pos (m * q) ≤ℤ v) (opposite c) h)))

pub large_component_speaks : LargeComponentSpeaks
large_component_speaks size energy bit c some below heard h = speaks size some below energy bit c heard h

-- ---- a component near a multiple of a bit's component

sign-unit : (bit : Bool) → nat_abs (sign bit) ≡ 1
sign-unit false = refl
sign-unit true = refl

component_is : (bit : Bool) → component bit ≡ pos 90 *ℤ sign bit
component_is false = refl
component_is true = refl

regrouped : (x s : ℤ) → x *ℤ (pos 90 *ℤ s) ≡ x *ℤ pos 90 *ℤ s
regrouped x s = same (ring.times (var x) (ring.times (lit 90) (var s))) (ring.times (ring.times (var x) (lit 90)) (var s)) (omega arith)

-- multiplied by the bit's sign, it is near 90 times the multiple
turned_component : (bit : Bool) (z : ℤ) (n k : ℕ) → nat_abs (z -ℤ pos n *ℤ component bit) ≤ k → nat_abs (sign bit *ℤ z -ℤ pos n *ℤ pos 90) ≤ k
turned_component bit z n k h =
    sign-turns (sign bit) z (pos n *ℤ pos 90) k (sign-unit bit)
    (subst (λ x. nat_abs (z -ℤ x) ≤ k) (ap (λ c. pos n *ℤ c) (component_is bit) ∙ regrouped (pos n) (sign bit)) h)

scaled : (s e f m n : ℕ) → s * e + 6 * f ≤ 540 * m → s * (e * n) + 6 * (f * n) ≤ 540 * (m * n)
scaled s e f m n h = let k = mul-le (s * e + 6 * f) n (540 * m) n h (omega arith) in omega (arith, k)

outweighs : (v : ℤ) (a b c d : ℕ) → a ≤ b → b + 6 * d ≤ 540 * c → nat_abs (v -ℤ pos c *ℤ pos 90) ≤ d → pos a ≤ℤ (pos 6 *ℤ v)
outweighs v a b c d l h near = omega (arith, ints)

-- an inequality without its scale
unscaled : (s a : ℕ) (v : ℤ) → 1 ≤ s → pos (s * a) ≤ℤ (pos s *ℤ v) → pos a ≤ℤ v
unscaled s a (pos b) some h = let k : s * a ≤ s * b = omega (arith, ints) in let l : a ≤ b = le_of_mul-le-mul_left k some in omega (arith, ints, l)
unscaled s a (negsuc b) some h = absurd (below s a b some h)
  where
    below : (s a b : ℕ) → 1 ≤ s → pos (s * a) ≤ℤ (pos s *ℤ negsuc b) → ⊥
    below s a b some h = omega (arith, ints)

pub near_component_speaks : NearComponentSpeaks
near_component_speaks size main off most some below enough scale unit energy bit c times heard few near =
    speaks size some below energy bit c heard
    (unscaled scale (size * energy) (pos 6 *ℤ (sign bit *ℤ c)) times
    (subst (λ v. pos (scale * (size * energy)) ≤ℤ v) (turned_out (pos scale) (sign bit) c)
    (outweighs (sign bit *ℤ (pos scale *ℤ c)) (scale * (size * energy)) (size * (most * unit)) (main * unit) (off * unit)
    (let k = mul-le size (scale * energy) size (most * unit) (omega arith) few in omega (arith, k))
    (scaled size most off main unit enough) (turned_component bit (pos scale *ℤ c) (main * unit) (off * unit) near))))
  where
    turned_out : (n s c : ℤ) → pos 6 *ℤ (s *ℤ (n *ℤ c)) ≡ n *ℤ (pos 6 *ℤ (s *ℤ c))
    turned_out n s c =
        let a = var n in
        let b = var s in
        let d = var c in
        same (ring.times (lit 6) (ring.times b (ring.times a d))) (ring.times a (ring.times (lit 6) (ring.times b d))) (omega arith)
