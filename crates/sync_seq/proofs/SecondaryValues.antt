-- The SSS: its m-sequences bit by bit, and its signs.
use Rattle.std.proofs.Common.{◌≡◌, ℕ, ◌+◌, ◌/◌, ◌%◌, ◌<◌, ◌≢◌, ◌∙◌, ap, arith, refl, Bool, true, false, List, ℤ, pos, negsuc, ◌*ℤ◌, nat_eq, to_z, of_z, FitsSigned}
use Rattle.std.specs.Prelude.{if◌then◌else◌, nat_abs}
use Rattle.std.specs.Int.{w8}
use Rattle.std.proofs.lemmas.Bool.Decides.{nat_tests}
use Rattle.std.proofs.lemmas.Int.{to_z-of_z, fits_signed_from_abs, unsigned_abs-mul}
use Rattle.lte_types.specs.declared.frame.Half.{Half}
use Rattle.sync_seq.specs.Secondary.{S, C, Z, bit_or_zero, even_value, odd_value, sign_at, period_bits, even_shift, odd_shift, shifted_value, sss_at}

-- ---- signs

pub sign-size : (x : List Bool) (n : ℕ) → nat_abs (sign_at x n) ≡ 1
sign-size x n = elim (bit_or_zero x (n % 31)) as (λ b. nat_abs (if b then negsuc 0 else pos 1) ≡ 1) [ true ↦ refl | false ↦ refl ]

pub product-size : (a b : ℤ) → nat_abs a ≡ 1 → nat_abs b ≡ 1 → nat_abs (a *ℤ b) ≡ 1
product-size a b p q = rw (unsigned_abs-mul a b, p, q) refl

pub product_same : (a b x y : ℤ) → a ≡ x → b ≡ y → a *ℤ b ≡ x *ℤ y
product_same a b x y p q = cc

-- signs multiplied in 8-bit arithmetic
pub kept_product : (a b : ℤ) → nat_abs a ≡ 1 → nat_abs b ≡ 1 → to_z w8 (of_z w8 (to_z w8 (of_z w8 a) *ℤ to_z w8 (of_z w8 b))) ≡ a *ℤ b
kept_product a b p q =
    let fa : FitsSigned w8 a = fits_signed_from_abs w8 a (omega arith) in
    let fb : FitsSigned w8 b = fits_signed_from_abs w8 b (omega arith) in
    let fc : FitsSigned w8 (a *ℤ b) = fits_signed_from_abs w8 (a *ℤ b) (omega (arith, product-size a b p q)) in
    simp to_z-of_z

pub kept_products : (a b d : ℤ) → nat_abs a ≡ 1 → nat_abs b ≡ 1 → nat_abs d ≡ 1 →
    to_z w8 (of_z w8 (to_z w8 (of_z w8 (to_z w8 (of_z w8 a) *ℤ to_z w8 (of_z w8 b))) *ℤ to_z w8 (of_z w8 d))) ≡ a *ℤ b *ℤ d
kept_products a b d p q r =
    let fa : FitsSigned w8 a = fits_signed_from_abs w8 a (omega arith) in
    let fb : FitsSigned w8 b = fits_signed_from_abs w8 b (omega arith) in
    let fd : FitsSigned w8 d = fits_signed_from_abs w8 d (omega arith) in
    let both = product-size a b p q in
    let fc : FitsSigned w8 (a *ℤ b) = fits_signed_from_abs w8 (a *ℤ b) (omega arith) in
    let fe : FitsSigned w8 (a *ℤ b *ℤ d) = fits_signed_from_abs w8 (a *ℤ b *ℤ d) (omega (arith, product-size (a *ℤ b) d both r)) in
    simp to_z-of_z

pub kept_sign : (a : ℤ) → nat_abs a ≡ 1 → to_z w8 (of_z w8 a) ≡ a
kept_sign a p = let fa : FitsSigned w8 a = fits_signed_from_abs w8 a (omega arith) in simp to_z-of_z

-- ---- the values at even and odd positions

pub shifted_even : (s c z : List Bool) (n2 even odd k : ℕ) → k % 2 ≡ 0 → shifted_value s c z n2 even odd k ≡ even_value s c n2 even (k / 2)
unfolding shifted_value
shifted_even s c z n2 even odd k e = rw e refl

pub shifted_odd : (s c z : List Bool) (n2 even odd k : ℕ) → k % 2 ≢ 0 → shifted_value s c z n2 even odd k ≡ odd_value s c z n2 even odd (k / 2)
unfolding shifted_value
shifted_odd s c z n2 even odd k e = let one : k % 2 ≡ 1 = omega arith in rw one refl

pub even-size : (s c : List Bool) (n2 even n : ℕ) → nat_abs (even_value s c n2 even n) ≡ 1
even-size s c n2 even n = product-size (sign_at s (n + even)) (sign_at c (n + n2)) (sign-size s (n + even)) (sign-size c (n + n2))

pub odd-size : (s c z : List Bool) (n2 even odd n : ℕ) → nat_abs (odd_value s c z n2 even odd n) ≡ 1
odd-size s c z n2 even odd n =
    product-size (sign_at s (n + odd) *ℤ sign_at c (n + n2 + 3)) (sign_at z (n + even % 8))
    (product-size (sign_at s (n + odd)) (sign_at c (n + n2 + 3)) (sign-size s (n + odd)) (sign-size c (n + n2 + 3)))
    (sign-size z (n + even % 8))

pub shifted_value-size : (s c z : List Bool) (n2 even odd k : ℕ) → nat_abs (shifted_value s c z n2 even odd k) ≡ 1
shifted_value-size s c z n2 even odd k = settle (nat_eq (k % 2) 0) refl
  where
    settle : (b : Bool) → nat_eq (k % 2) 0 ≡ b → nat_abs (shifted_value s c z n2 even odd k) ≡ 1
    settle true e = let zero : k % 2 ≡ 0 = grind (arith, nat_tests) in rw (shifted_even s c z n2 even odd k zero) (even-size s c n2 even (k / 2))
    settle false e = let one : k % 2 ≢ 0 = grind (arith, nat_tests) in rw (shifted_odd s c z n2 even odd k one) (odd-size s c z n2 even odd (k / 2))

pub sss-size : (n1 n2 : ℕ) (half : Half) (k : ℕ) → nat_abs (sss_at n1 n2 half k) ≡ 1
unfolding sss_at
sss-size n1 n2 half k = shifted_value-size (period_bits S) (period_bits C) (period_bits Z) n2 (even_shift half n1) (odd_shift half n1) k
