-- Signed 16-bit numbers, and samples made from them.
use Rattle.std.proofs.Common.{◌≡◌, ◌≤◌, arith, ap, ℤ, pos, negsuc, FitsSigned}
use Rattle.std.specs.Prelude.{nat_abs}
use Rattle.std.specs.Int.{w16}
use Rattle.std.proofs.lemmas.Int.{fits_signed_from_abs}
use Rattle.cs_num.specs.declared.Cpx.{Cpx}
use Rattle.cs_num.specs.Complex.{IsWithin, value_of}
use Rattle.cs_num.specs.Rounding.{in_16_bits, nearest_sample}
use Rattle.cs_num.proofs.Complex.{pair}

-- the nearest 16-bit number fits 16 bits
pub in_16_bits-fits : (x : ℤ) → FitsSigned w16 (in_16_bits x)
in_16_bits-fits (pos n) = record { sfits = omega arith }
in_16_bits-fits (negsuc n) = record { sfits = omega arith }

-- a number that fits 16 bits is kept
pub in_16_bits-kept : (x : ℤ) → FitsSigned w16 x → in_16_bits x ≡ x
in_16_bits-kept (pos n) f = let h = f.sfits in ap pos (omega (arith, h))
in_16_bits-kept (negsuc n) f = let h = f.sfits in ap negsuc (omega (arith, h))

in_16_bits-small : (x : ℤ) → nat_abs (in_16_bits x) ≤ 32768
in_16_bits-small (pos n) = omega arith
in_16_bits-small (negsuc n) = omega arith

pub nearest_sample-within : (a : Cpx) → IsWithin 32768 (value_of (nearest_sample a))
nearest_sample-within a = record { re = in_16_bits-small a.re; im = in_16_bits-small a.im }

pub nearest_sample-kept : (a : Cpx) → IsWithin 32767 a → value_of (nearest_sample a) ≡ a
nearest_sample-kept a h = pair
    (in_16_bits-kept a.re (fits_signed_from_abs w16 _ (omega (arith, h.re))))
    (in_16_bits-kept a.im (fits_signed_from_abs w16 _ (omega (arith, h.im))))
