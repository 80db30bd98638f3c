-- Small values in 16 and in 32 bits.
use Rattle.std.proofs.Common.{◌≡◌, ◌≤◌, ℤ, pos, negsuc, FitsSigned, ap, ◌∙◌, arith}
use Rattle.std.specs.Prelude.{nat_abs}
use Rattle.std.specs.Int.{w16, w32, cast_unsigned, cast_signed}
use Rattle.std.proofs.lemmas.Int.{ints, to_z-of_z}

pub fits_16 : (z : ℤ) → nat_abs z ≤ 2032 → FitsSigned w16 z
fits_16 (pos n) h = omega (arith, ints)
fits_16 (negsuc n) h = omega (arith, ints)

pub fits_32 : (z : ℤ) → nat_abs z ≤ 2032 → FitsSigned w32 z
fits_32 (pos n) h = omega (arith, ints)
fits_32 (negsuc n) h = omega (arith, ints)

pub same_bits : (z : ℤ) → nat_abs z ≤ 2032 → cast_unsigned w16 (cast_signed w16 (cast_unsigned w16 (cast_signed w32 (cast_unsigned w32 z)))) ≡ cast_unsigned w16 z
same_bits z h =
    ap (λ y. cast_unsigned w16 (cast_signed w16 (cast_unsigned w16 y))) (to_z-of_z w32 z (fits_32 z h)) ∙ ap (cast_unsigned w16) (to_z-of_z w16 z (fits_16 z h))
