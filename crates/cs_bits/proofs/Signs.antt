-- Laws for the agreement between soft values and bits.
use Rattle.std.proofs.Common.{◌≡◌, ℕ, ◌≤◌, Bool, true, false, ℤ, pos, negsuc, refl, arith}
use Rattle.std.specs.Prelude.{nat_abs}
use Rattle.std.proofs.lemmas.Int.{ints}
use Rattle.cs_bits.specs.Signs.{disagreement, Allows, SpeaksFor, Supports}

-- the disagreement is at most the magnitude
pub disagreement-le : (z : ℤ) (b : Bool) → disagreement z b ≤ nat_abs z
disagreement-le (pos n) false = omega arith
disagreement-le (pos n) true = omega arith
disagreement-le (negsuc n) false = omega arith
disagreement-le (negsuc n) true = omega arith

-- if a value has the sign of b and does not contradict a, the two bits are equal
pub speaks_for_one : (z : ℤ) (a b : Bool) → SpeaksFor z b → Allows z a → a ≡ b
speaks_for_one z false false s h = refl
speaks_for_one z false true s h = let d = s.costs in absurd (omega (arith, d, h))
speaks_for_one z true false s h = let d = s.costs in absurd (omega (arith, d, h))
speaks_for_one z true true s h = refl

-- a value with a bit's sign is not 0
pub speaks_with_size : (z : ℤ) (b : Bool) → SpeaksFor z b → 1 ≤ nat_abs z
speaks_with_size (pos n) false s = let d = s.costs in omega (arith, d)
speaks_with_size (pos n) true s = let d = s.costs in omega (arith, d)
speaks_with_size (negsuc n) b s = omega arith

-- support with magnitude 0 means that a value does not contradict the bit, and with magnitude 1 that it has its sign
pub supports-allows : (b : Bool) (z : ℤ) → Supports 0 b z → Allows z b
supports-allows false (pos n) h = refl
supports-allows false (negsuc n) h = absurd (omega (arith, ints))
supports-allows true (pos n) h = omega (arith, ints)
supports-allows true (negsuc n) h = refl

pub allows-supports : (b : Bool) (z : ℤ) → Allows z b → Supports 0 b z
allows-supports false (pos n) h = omega (arith, ints)
allows-supports false (negsuc n) h = absurd (omega (arith, h))
allows-supports true (pos n) h = omega (arith, ints, h)
allows-supports true (negsuc n) h = omega (arith, ints)

pub supports-speaks : (b : Bool) (z : ℤ) → Supports 1 b z → SpeaksFor z b
supports-speaks false (pos n) h = record { free = refl; costs = omega (arith, ints) }
supports-speaks false (negsuc n) h = absurd (omega (arith, ints))
supports-speaks true (pos n) h = absurd (omega (arith, ints))
supports-speaks true (negsuc n) h = record { free = refl; costs = omega arith }

pub speaks-supports : (b : Bool) (z : ℤ) → SpeaksFor z b → Supports 1 b z
speaks-supports false (pos n) s = let d = s.costs in omega (arith, ints, d)
speaks-supports false (negsuc n) s = let f = s.free in absurd (omega (arith, f))
speaks-supports true (pos n) s = let d = s.costs in absurd (omega (arith, d))
speaks-supports true (negsuc n) s = omega (arith, ints)

-- support with a magnitude implies support with any smaller one
pub supports-less : (m n : ℕ) (b : Bool) (z : ℤ) → m ≤ n → Supports n b z → Supports m b z
supports-less m n false z l h = omega (arith, ints)
supports-less m n true z l h = omega (arith, ints)
