-- The magnitude of a sum of two terms.
use Rattle.std.proofs.Common.{◌≡◌, ℕ, ◌+◌, ◌*◌, ◌≤◌, ℤ, pos, ◌+ℤ◌, ◌*ℤ◌, arith, mul-le-mul, mul-le-mul_left}
use Rattle.std.proofs.lemmas.Int.{ints}
use Rattle.std.specs.Prelude.{nat_abs}
use Rattle.cs_num.specs.declared.Cpx.{Cpx}
use Rattle.cs_num.specs.Complex.{plus, square}
use Rattle.norms.specs.Magnitudes.{inner}
use Rattle.norms.proofs.Naturals.{root-le, means-le, cross-le}
use Rattle.norms.proofs.Squares.{square-plus, square-plus_le, inner-le}

two_terms : (s x y i a b c d : ℕ) → s ≤ x + y + 2 * i → i * i ≤ x * y → x ≤ a * b → y ≤ c * d → s ≤ (a + c) * (b + d)
two_terms s x y i a b c d h k p q =
    let m : x * y ≤ (a * b) * (c * d) = mul-le-mul p q in
    omega (arith, h, cross-le i a b c d (omega (arith, k, m)))

-- Cauchy–Schwarz for two terms: |x|^2 ≤ a b and |y|^2 ≤ c d imply |x + y|^2 ≤ (a + c) (b + d)
pub two_term_cauchy : (x y : Cpx) (a b c d : ℕ) → square x ≤ a * b → square y ≤ c * d → square (plus x y) ≤ (a + c) * (b + d)
two_term_cauchy x y a b c d p q = two_terms (square (plus x y)) (square x) (square y) (nat_abs (inner x y)) a b c d (square-plus_le x y) (inner-le x y) p q

weights : (m x y i : ℕ) → i * i ≤ x * y → 2 * (m * i) ≤ x + m * m * y
weights m x y i h = root-le _ _ (omega (arith, scaled, means-le x (m * m * y)))
  where
    scaled : m * m * (i * i) ≤ m * m * (x * y)
    scaled = mul-le-mul_left (m * m) h

weighted_sum : (m s x y i : ℕ) → s ≤ x + y + 2 * i → i * i ≤ x * y → m * s ≤ (m + 1) * x + m * (m + 1) * y
weighted_sum m s x y i h k =
    let t : m * s ≤ m * (x + y + 2 * i) = mul-le-mul_left m h in
    omega (arith, t, weights m x y i k)

-- m |x + y|^2 ≤ (m + 1) |x|^2 + m (m + 1) |y|^2; the difference is |x - m y|^2
pub weighted : (m : ℕ) (x y : Cpx) → m * square (plus x y) ≤ (m + 1) * square x + m * (m + 1) * square y
weighted m x y = weighted_sum m (square (plus x y)) (square x) (square y) (nat_abs (inner x y)) (square-plus_le x y) (inner-le x y)

weighted_less : (m s x y : ℕ) (i : ℤ) → pos s ≡ pos x +ℤ pos y +ℤ pos 2 *ℤ i → nat_abs i * nat_abs i ≤ x * y → m * x ≤ (m + 1) * s + m * (m + 1) * y
weighted_less m s x y i e k =
    let low : x + y ≤ s + 2 * nat_abs i = omega (arith, ints) in
    let t : (m + 1) * (x + y) ≤ (m + 1) * (s + 2 * nat_abs i) = mul-le-mul_left (m + 1) low in
    let w : 2 * ((m + 1) * nat_abs i) ≤ x + (m + 1) * (m + 1) * y = weights (m + 1) x y (nat_abs i) k in
    omega (arith, t, w)

-- the inequality rearranged for one term: m |x|^2 ≤ (m + 1) |x + y|^2 + m (m + 1) |y|^2
pub weighted_term : (m : ℕ) (x y : Cpx) → m * square x ≤ (m + 1) * square (plus x y) + m * (m + 1) * square y
weighted_term m x y = weighted_less m (square (plus x y)) (square x) (square y) (inner x y) (square-plus x y) (inner-le x y)
