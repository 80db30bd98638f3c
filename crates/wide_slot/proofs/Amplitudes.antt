-- Products of channels and received values in 128 bits.
use Rattle.std.proofs.Common.{◌*◌, ◌^◌, ◌+ℤ◌, ◌-ℤ◌, ◌*ℤ◌, arith, FitsSigned}
use Rattle.std.specs.Int.{w128}
use Rattle.std.proofs.lemmas.Int.{fits_signed_from_abs}
use Rattle.finite.proofs.Integers.{abs-sum, abs-difference, product_within}
use Rattle.cs_num.specs.declared.Cpx.{Cpx}
use Rattle.cs_num.specs.Complex.{IsWithin}

-- the products and sums in the product of a channel and a received value fit 128 bits
pub record Products (h a : Cpx) : Type 0 where
  pub h_re : FitsSigned w128 h.re
  pub h_im : FitsSigned w128 h.im
  pub a_re : FitsSigned w128 a.re
  pub a_im : FitsSigned w128 a.im
  pub re_re : FitsSigned w128 (h.re *ℤ a.re)
  pub im_im : FitsSigned w128 (h.im *ℤ a.im)
  pub re_im : FitsSigned w128 (h.re *ℤ a.im)
  pub im_re : FitsSigned w128 (h.im *ℤ a.re)
  pub difference : FitsSigned w128 (h.re *ℤ a.re -ℤ h.im *ℤ a.im)
  pub total : FitsSigned w128 (h.re *ℤ a.im +ℤ h.im *ℤ a.re)

pub products_fit : (h a : Cpx) → IsWithin (8640 * 2 ^ 25) h → IsWithin (2 ^ 25) a → Products h a
products_fit h a p q =
    let rr = product_within h.re a.re (8640 * 2 ^ 25) (2 ^ 25) (8640 * 2 ^ 50) p.re q.re (omega arith) in
    let ii = product_within h.im a.im (8640 * 2 ^ 25) (2 ^ 25) (8640 * 2 ^ 50) p.im q.im (omega arith) in
    let ri = product_within h.re a.im (8640 * 2 ^ 25) (2 ^ 25) (8640 * 2 ^ 50) p.re q.im (omega arith) in
    let ir = product_within h.im a.re (8640 * 2 ^ 25) (2 ^ 25) (8640 * 2 ^ 50) p.im q.re (omega arith) in
    record {
      h_re = fits_signed_from_abs w128 _ (omega (arith, p.re));
      h_im = fits_signed_from_abs w128 _ (omega (arith, p.im));
      a_re = fits_signed_from_abs w128 _ (omega (arith, q.re));
      a_im = fits_signed_from_abs w128 _ (omega (arith, q.im));
      re_re = fits_signed_from_abs w128 _ (omega (arith, rr));
      im_im = fits_signed_from_abs w128 _ (omega (arith, ii));
      re_im = fits_signed_from_abs w128 _ (omega (arith, ri));
      im_re = fits_signed_from_abs w128 _ (omega (arith, ir));
      difference = fits_signed_from_abs w128 _ (omega (arith, rr, ii, abs-difference (h.re *ℤ a.re) (h.im *ℤ a.im)));
      total = fits_signed_from_abs w128 _ (omega (arith, ri, ir, abs-sum (h.re *ℤ a.im) (h.im *ℤ a.re)));
    }
