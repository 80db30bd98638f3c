-- Bounds on rounded numbers, and on the rounding error.
use Rattle.std.proofs.Common.{ℕ, ◌+◌, ◌*◌, ◌/◌, ◌≤◌, ◌<◌, arith, ℤ, pos, negsuc, ◌+ℤ◌, ◌-ℤ◌, ◌*ℤ◌, ◌≤ℤ◌, ◌<ℤ◌}
use Rattle.std.proofs.Math.Nat.{div-lt_iff_lt-mul}
use borrow.Author.Differences.{up, down}
use Rattle.std.proofs.lemmas.Int.{ints}
use Rattle.std.specs.Prelude.{nat_abs}
use Rattle.finite.proofs.Integers.{one_part}
use Rattle.cs_num.specs.declared.Cpx.{Cpx}
use Rattle.cs_num.specs.Complex.{IsWithin, minus, multiple}
use Rattle.cs_num.specs.Rounding.{floor_div, rounded_quotient, quotient}

floor_within : (x : ℤ) (d bound : ℕ) → 0 < d → up x < (bound + 1) * d → down x ≤ bound * d → nat_abs (floor_div x d) ≤ bound
floor_within (pos n) d bound p u l = let h : n / d < bound + 1 = (div-lt_iff_lt-mul p).1 u in omega (arith, h)
floor_within (negsuc n) d bound p u l =
    let m : n < bound * d = omega (arith, l) in
    let h : n / d < bound = (div-lt_iff_lt-mul p).1 m in
    omega (arith, h)

-- the rounded quotient x / d has magnitude at most `bound` if d = 2 * half and |x| < bound * d + half
pub rounds_within : (x : ℤ) (half bound : ℕ) → 0 < half → nat_abs x < bound * (2 * half) + half →
    nat_abs (floor_div (x +ℤ pos half) (2 * half)) ≤ bound
rounds_within x half bound p h =
    floor_within (x +ℤ pos half) (2 * half) bound (omega arith)
    (omega (arith, ints, one_part x, one_part (x +ℤ pos half)))
    (omega (arith, ints, one_part x, one_part (x +ℤ pos half)))

floor_low : (x : ℤ) (d : ℕ) → 0 < d → (floor_div x d *ℤ pos d) ≤ℤ x
floor_low (pos n) d p = omega (arith, ints)
floor_low (negsuc n) d p = omega (arith, ints)

floor_high : (x : ℤ) (d : ℕ) → 0 < d → x <ℤ (floor_div x d *ℤ pos d +ℤ pos d)
floor_high (pos n) d p = omega (arith, ints)
floor_high (negsuc n) d p = omega (arith, ints)

-- the rounding error is at most half the divisor d = 2 * half
pub rounds_near : (x : ℤ) (half : ℕ) → 0 < half → nat_abs (pos (2 * half) *ℤ floor_div (x +ℤ pos half) (2 * half) -ℤ x) ≤ half
rounds_near x half p =
    let low = floor_low (x +ℤ pos half) (2 * half) (omega arith) in
    let high = floor_high (x +ℤ pos half) (2 * half) (omega arith) in
    omega (arith, ints)

-- the rounded quotient x / d has magnitude at most `bound` if |x| ≤ d * bound
quotient_part-within : (x : ℤ) (d bound : ℕ) → 0 < d → nat_abs x ≤ d * bound → nat_abs (rounded_quotient x d) ≤ bound
quotient_part-within x d bound p h = rounds_within (pos 2 *ℤ x) d bound p (omega (arith, ints, h))

pub quotient-within : (a : Cpx) (d bound : ℕ) → 0 < d → IsWithin (d * bound) a → IsWithin bound (quotient a d)
quotient-within a d bound p h = record {
  re = quotient_part-within a.re d bound p h.re;
  im = quotient_part-within a.im d bound p h.im;
}

-- 2d times the rounded quotient is within d of 2x
quotient_part-near : (x : ℤ) (d : ℕ) → 0 < d → nat_abs (pos 2 *ℤ x -ℤ pos (2 * d) *ℤ rounded_quotient x d) ≤ d
quotient_part-near x d p = let h = rounds_near (pos 2 *ℤ x) d p in omega (arith, ints, h)

pub quotient-near : (a : Cpx) (d : ℕ) → 0 < d → IsWithin d (minus (multiple 2 a) (multiple (2 * d) (quotient a d)))
quotient-near a d p = record { re = quotient_part-near a.re d p; im = quotient_part-near a.im d p }
