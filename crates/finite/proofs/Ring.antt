-- Polynomial identities over ℤ, reduced to ℕ: an integer z is written as u - d. Both sides are built from `var`,
-- `lit`, `plus`, `minus` and `times`; `same` then leaves an identity in ℕ for `omega`.
use Rattle.std.proofs.Common.{ℕ, ◌+◌, ◌*◌, ◌≡◌, ℤ, pos, ◌+ℤ◌, ◌-ℤ◌, ◌*ℤ◌, neg_ℤ, refl, ap, arith}
use borrow.Author.Differences.{up, down, same_in, sum_is_lem, neg_is, product_is}

pub record Is (z : ℤ) (u d : ℕ) : Type 0 where
  pub is : up z + d ≡ u + down z

pub var : (z : ℤ) → Is z (up z) (down z)
var z = record { is = refl }

pub lit : (n : ℕ) → Is (pos n) n 0
lit n = record { is = refl }

pub plus : {x y : ℤ} {a b c d : ℕ} → Is x a b → Is y c d → Is (x +ℤ y) (a + c) (b + d)
plus {x} {y} p q = record { is = omega (arith, sum_is_lem x y, p.is, q.is) }

pub minus_one : {x : ℤ} {a b : ℕ} → Is x a b → Is (neg_ℤ x) b a
minus_one {x} p = record { is = omega (arith, neg_is x, p.is) }

pub minus : {x y : ℤ} {a b c d : ℕ} → Is x a b → Is y c d → Is (x -ℤ y) (a + d) (b + c)
minus {x} {y} p q = plus p (minus_one q)

cross : (u v s t a b c d : ℕ) → u + b ≡ a + v → s + d ≡ c + t → u * s + v * t + (a * d + b * c) ≡ a * c + b * d + (u * t + v * s)
cross u v s t a b c d e f = omega (arith, ap (λ n. n * s) e, ap (λ n. n * t) e, ap (λ n. a * n) f, ap (λ n. b * n) f)

pub times : {x y : ℤ} {a b c d : ℕ} → Is x a b → Is y c d → Is (x *ℤ y) (a * c + b * d) (a * d + b * c)
times {x} {y} {a} {b} {c} {d} p q = record { is = omega (arith, product_is x y, cross (up x) (down x) (up y) (down y) a b c d p.is q.is) }

pub same : {x y : ℤ} {a b c d : ℕ} → Is x a b → Is y c d → a + d ≡ c + b → x ≡ y
same {x} {y} p q e = same_in x y (omega (arith, p.is, q.is))
