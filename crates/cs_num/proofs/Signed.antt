-- Signed machine arithmetic used in this crate.
use Rattle.std.proofs.Common.{◌≡◌, ℕ, ◌+◌, ◌*◌, ◌-◌, ◌^◌, ◌%◌, ◌<◌, ◌≤◌, min, arith, refl, ◌∙◌, to_z, of_z, ℤ, pos, negsuc, ◌+ℤ◌, ◌-ℤ◌, ◌*ℤ◌, ◌≤ℤ◌, FitsSigned, w64}
use Rattle.cs_num.specs.declared.Cpx.{Cpx}
use Rattle.cs_num.specs.Complex.{largest_part}
use Rattle.cs_num.specs.Rounding.{floor_div, clamped, round_shifted}
use Rattle.finite.proofs.Integers.{abs-sum, abs-difference, product_within, one_part}
use Rattle.std.specs.Int.{int_max, int_min}
use Rattle.std.proofs.Math.Nat.{div-le_self}
use Rattle.std.proofs.Math.Pow.{pow_mono}
use borrow.Author.Differences.{up, down, neg_is}
use Rattle.std.specs.Int.Signed.{shr_z}
use Rattle.std.proofs.lemmas.Int.{to_z-of_z, clamps, ints, fits_signed_from_abs}
use Rattle.std.specs.Prelude.{nat_abs}

-- the products and sums in a complex product fit 64 bits
pub record Products (a b : Cpx) : Type 0 where
  pub re_re : FitsSigned w64 (a.re *ℤ b.re)
  pub im_im : FitsSigned w64 (a.im *ℤ b.im)
  pub re_im : FitsSigned w64 (a.re *ℤ b.im)
  pub im_re : FitsSigned w64 (a.im *ℤ b.re)
  pub difference : FitsSigned w64 (a.re *ℤ b.re -ℤ a.im *ℤ b.im)
  pub total : FitsSigned w64 (a.re *ℤ b.im +ℤ a.im *ℤ b.re)

pub products_fit : (a b : Cpx) → largest_part a * largest_part b ≤ 2 ^ 61 → Products a b
products_fit a b h =
    let rr = product_within a.re b.re (largest_part a) (largest_part b) (2 ^ 61) (omega arith) (omega arith) h in
    let ii = product_within a.im b.im (largest_part a) (largest_part b) (2 ^ 61) (omega arith) (omega arith) h in
    let ri = product_within a.re b.im (largest_part a) (largest_part b) (2 ^ 61) (omega arith) (omega arith) h in
    let ir = product_within a.im b.re (largest_part a) (largest_part b) (2 ^ 61) (omega arith) (omega arith) h in
    record {
      re_re = fits_signed_from_abs w64 _ (omega arith);
      im_im = fits_signed_from_abs w64 _ (omega arith);
      re_im = fits_signed_from_abs w64 _ (omega arith);
      im_re = fits_signed_from_abs w64 _ (omega arith);
      difference = fits_signed_from_abs w64 _ (omega (arith, abs-difference (a.re *ℤ b.re) (a.im *ℤ b.im)));
      total = fits_signed_from_abs w64 _ (omega (arith, abs-sum (a.re *ℤ b.im) (a.im *ℤ b.re)));
    }

-- the components of a multiple fit 64 bits
pub record Multiples (n : ℕ) (a : Cpx) : Type 0 where
  pub re : FitsSigned w64 (pos n *ℤ a.re)
  pub im : FitsSigned w64 (pos n *ℤ a.im)

pub multiples_fit : (n : ℕ) (a : Cpx) → n * largest_part a < 2 ^ 63 → Multiples n a
multiples_fit n a h = record {
  re = fits_signed_from_abs w64 _ (omega (arith, h, product_within (pos n) a.re n (largest_part a) (n * largest_part a) (omega arith) (omega arith) (omega arith)));
  im = fits_signed_from_abs w64 _ (omega (arith, h, product_within (pos n) a.im n (largest_part a) (n * largest_part a) (omega arith) (omega arith) (omega arith)));
}

-- 1 << (bits - 1)
pub half_is : (bits : ℕ) → (1 ≤ bits) × (bits ≤ 40) → to_z w64 (1 * 2 ^ (bits - 1) % 18446744073709551616) ≡ pos (2 ^ (bits - 1))
half_is bits h =
    let small : 2 ^ (bits - 1) ≤ 2 ^ 39 = pow_mono {i = bits - 1} {j = 39} (omega arith) in
    omega (arith, ints)

pub shifted_fits : (x : ℤ) (bits : ℕ) → nat_abs x ≤ 2 ^ 62 → (1 ≤ bits) × (bits ≤ 40) → FitsSigned w64 (x +ℤ pos (2 ^ (bits - 1)))
shifted_fits x bits h b =
    let small : 2 ^ (bits - 1) ≤ 2 ^ 39 = pow_mono {i = bits - 1} {j = 39} (omega arith) in
    fits_signed_from_abs w64 _ (omega (arith, abs-sum x (pos (2 ^ (bits - 1)))))

pub shift_is : (x : ℤ) (d : ℕ) → shr_z x d ≡ floor_div x d
shift_is (pos n) d = refl
shift_is (negsuc n) d = refl

-- clamping in the positive and the negative part at once, so that one lemma serves
clamp_up : (x : ℤ) (l : ℕ) → (up (clamped x l) ≡ min (up x) l) × (down (clamped x l) ≡ min (down x) l)
clamp_up (pos n) l = (refl, omega arith)
clamp_up (negsuc n) l = ((neg_is (pos (min (n + 1) l))).0 ∙ omega arith, (neg_is (pos (min (n + 1) l))).1 ∙ omega arith)

pub clamp_is : (x limit : ℤ) → pos 0 ≤ℤ limit → int_max (pos 0 -ℤ limit) (int_min x limit) ≡ clamped x (nat_abs limit)
clamp_is x limit h = omega (arith, ints, clamps, clamp_up x (nat_abs limit), one_part x)

shifted_back : (x : ℤ) (d : ℕ) → FitsSigned w64 x → FitsSigned w64 (floor_div x d)
shifted_back (pos n) d f = record { sfits = omega (arith, f.sfits, div-le_self n d) }
shifted_back (negsuc n) d f = record { sfits = omega (arith, f.sfits, div-le_self n d) }

pub rounds : (x : ℤ) (bits : ℕ) → FitsSigned w64 x → nat_abs x ≤ 2 ^ 62 → (1 ≤ bits) × (bits ≤ 40) →
    to_z w64 (of_z w64 (shr_z (to_z w64 (of_z w64 (to_z w64 (of_z w64 x) +ℤ to_z w64 (1 * 2 ^ (bits - 1) % 18446744073709551616)))) (2 ^ bits))) ≡ round_shifted x bits
rounds x bits f h b =
    let g = shifted_fits x bits h b in
    let s : FitsSigned w64 (floor_div (x +ℤ pos (2 ^ (bits - 1))) (2 ^ bits)) = shifted_back (x +ℤ pos (2 ^ (bits - 1))) (2 ^ bits) g in
    rw (half_is bits b) (simp (to_z-of_z, shift_is))
