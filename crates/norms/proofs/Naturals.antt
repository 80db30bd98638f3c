-- Inequalities in ℕ that avoid square roots.
use Rattle.std.proofs.Common.{◌≡◌, ℕ, ◌+◌, ◌-◌, ◌*◌, ◌<◌, ◌≤◌, ◌⊎◌, inl, inr, arith}

either_way : (m n : ℕ) → (n ≤ m) ⊎ (m < n)
either_way m n = grind arith

square-lt : (m n : ℕ) → m < n → m * m < n * n
square-lt m n h = grind arith

-- the smaller square has the smaller root
pub root-le : (n m : ℕ) → n * n ≤ m * m → n ≤ m
root-le n m h = elim (either_way m n) [ inl p ↦ p | inr q ↦ absurd (omega (arith, square-lt m n q)) ]

four_far : (x k : ℕ) → 4 * (x * (x + k)) ≤ (x + (x + k)) * (x + (x + k))
four_far x k = omega arith

-- arithmetic and geometric mean: a product is at most the square of half the sum
pub means-le : (x y : ℕ) → 4 * (x * y) ≤ (x + y) * (x + y)
means-le x y = elim (either_way y x) [
  | inl p ↦ (let e : y ≡ x + (y - x) = omega arith in rw e (four_far x (y - x)))
  | inr q ↦ (let e : x ≡ y + (x - y) = omega arith in rw e (omega (arith, four_far y (x - y))))
]

-- t^2 ≤ (a b) (c d) implies 2 t ≤ a d + c b
pub cross-le : (t a b c d : ℕ) → t * t ≤ (a * b) * (c * d) → 2 * t ≤ a * d + c * b
cross-le t a b c d h = root-le (2 * t) (a * d + c * b) (omega (arith, h, means-le (a * d) (c * b)))
