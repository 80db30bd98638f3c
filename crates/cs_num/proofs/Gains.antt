-- Gains stored as 16-bit components.
use Rattle.std.proofs.Common.{rules, ◌≡◌, ◌≤◌, ℤ, to_z, of_z, w16, w64, arith}
use Rattle.std.proofs.lemmas.Int.{ints}
use Rattle.std.specs.Prelude.{nat_abs}
use Rattle.cs_num.specs.declared.Cpx.{Cpx}
use Rattle.cs_num.specs.Complex.{IsWithin}
use Rattle.cs_num.specs.Gain.{IsGain, with_parts}
use Rattle.cs_num.proofs.Complex.{pair}

pub gain-within : (a : Cpx) → IsGain a → IsWithin 28 a
gain-within a g = search rules

kept : (x : ℤ) → nat_abs x ≤ 28 → to_z w16 (of_z w16 (to_z w64 (of_z w64 x))) ≡ x
kept x h = omega (arith, ints)

pub in_16_bits : (a : Cpx) → IsGain a → with_parts (to_z w16 (of_z w16 (to_z w64 (of_z w64 a.re)))) (to_z w16 (of_z w16 (to_z w64 (of_z w64 a.im)))) ≡ a
in_16_bits a g = let h = gain-within a g in pair (kept a.re h.re) (kept a.im h.im)
