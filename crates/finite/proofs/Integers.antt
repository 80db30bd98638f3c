-- Bounds on magnitudes, and the ring laws of ℤ.
use Rattle.std.proofs.Common.{◌≡◌, ℕ, ◌+◌, ◌*◌, ◌≤◌, min, arith, ℤ, pos, negsuc, ◌+ℤ◌, ◌-ℤ◌, ◌*ℤ◌, ◌<ℤ◌, ◌≤ℤ◌}
use Rattle.std.proofs.Math.Nat.{mul-le-mul}
use Rattle.std.proofs.lemmas.Int.{ints, unsigned_abs-mul}
use Rattle.std.specs.Prelude.{nat_abs}
use borrow.Author.Differences.{up, down}
use Rattle.finite.proofs.Ring.{var, plus, times, same}

pub abs-sum : (a b : ℤ) → nat_abs (a +ℤ b) ≤ nat_abs a + nat_abs b
abs-sum a b = omega (arith, ints)

pub abs-difference : (a b : ℤ) → nat_abs (a -ℤ b) ≤ nat_abs a + nat_abs b
abs-difference a b = omega (arith, ints)

pub mul-distributes : (a b c : ℤ) → a *ℤ (b +ℤ c) ≡ a *ℤ b +ℤ a *ℤ c
mul-distributes a b c = same (times (var a) (plus (var b) (var c))) (plus (times (var a) (var b)) (times (var a) (var c))) (omega arith)

pub product_within : (a b : ℤ) (m n bound : ℕ) → nat_abs a ≤ m → nat_abs b ≤ n → m * n ≤ bound → nat_abs (a *ℤ b) ≤ bound
product_within a b m n bound p q r = omega (arith, unsigned_abs-mul a b, mul-le-mul p q)

pub lt-le : (a b : ℤ) → a <ℤ b → a ≤ℤ b
lt-le a b h = omega (arith, ints)

pub lt-not_le : (a b : ℤ) → a <ℤ b → b ≤ℤ a → ⊥
lt-not_le a b h k = absurd (omega (arith, ints))

-- `omega` splits an integer into `up` and `down` without knowing that one of the two is 0
pub one_part : (x : ℤ) → min (up x) (down x) ≡ 0
one_part (pos n) = omega arith
one_part (negsuc n) = omega arith
