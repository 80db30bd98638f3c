-- Products with a gain, in 32 bits.
use Rattle.std.proofs.Common.{◌≤◌, arith, ◌+ℤ◌, ◌-ℤ◌, ◌*ℤ◌, ℤ, nat_abs, w32, FitsSigned}
use Rattle.std.proofs.lemmas.Int.{fits_signed_from_abs}
use Rattle.finite.proofs.Integers.{product_within}
use Rattle.cs_num.specs.declared.Cpx.{Cpx}
use Rattle.cs_num.specs.Complex.{IsWithin, minus, times}
use Rattle.cs_num.proofs.Complex.{times-within, minus-within}

-- the intermediate values from a sample, the transmitted sample and a gain to the residual
pub record AreNarrow (sample sent gain : Cpx) : Type 0 where
  pub gain_re : FitsSigned w32 gain.re
  pub gain_im : FitsSigned w32 gain.im
  pub sent_re : FitsSigned w32 sent.re
  pub sent_im : FitsSigned w32 sent.im
  pub sample_re : FitsSigned w32 sample.re
  pub sample_im : FitsSigned w32 sample.im
  pub re_re : FitsSigned w32 (gain.re *ℤ sent.re)
  pub im_im : FitsSigned w32 (gain.im *ℤ sent.im)
  pub re_im : FitsSigned w32 (gain.re *ℤ sent.im)
  pub im_re : FitsSigned w32 (gain.im *ℤ sent.re)
  pub difference : FitsSigned w32 (gain.re *ℤ sent.re -ℤ gain.im *ℤ sent.im)
  pub total : FitsSigned w32 (gain.re *ℤ sent.im +ℤ gain.im *ℤ sent.re)
  pub left_re : FitsSigned w32 (sample.re -ℤ (gain.re *ℤ sent.re -ℤ gain.im *ℤ sent.im))
  pub left_im : FitsSigned w32 (sample.im -ℤ (gain.re *ℤ sent.im +ℤ gain.im *ℤ sent.re))
  pub small : IsWithin 4194304 (minus sample (times gain sent))

fits : (z : ℤ) → nat_abs z ≤ 4194304 → FitsSigned w32 z
fits z h = fits_signed_from_abs w32 z (omega (arith, h))

pub are_narrow : (sample sent gain : Cpx) → IsWithin 32768 sample → IsWithin 32768 sent → IsWithin 28 gain → AreNarrow sample sent gain
are_narrow sample sent gain a b g =
    let product = times-within gain sent 28 32768 917504 g b (omega arith) in
    let left = minus-within sample (times gain sent) 32768 1835008 4194304 a product (omega arith) in
    record {
      gain_re = fits gain.re (let h = g.re in omega (arith, h));
      gain_im = fits gain.im (let h = g.im in omega (arith, h));
      sent_re = fits sent.re (let h = b.re in omega (arith, h));
      sent_im = fits sent.im (let h = b.im in omega (arith, h));
      sample_re = fits sample.re (let h = a.re in omega (arith, h));
      sample_im = fits sample.im (let h = a.im in omega (arith, h));
      re_re = fits (gain.re *ℤ sent.re) (let h = product_within gain.re sent.re 28 32768 917504 g.re b.re (omega arith) in omega (arith, h));
      im_im = fits (gain.im *ℤ sent.im) (let h = product_within gain.im sent.im 28 32768 917504 g.im b.im (omega arith) in omega (arith, h));
      re_im = fits (gain.re *ℤ sent.im) (let h = product_within gain.re sent.im 28 32768 917504 g.re b.im (omega arith) in omega (arith, h));
      im_re = fits (gain.im *ℤ sent.re) (let h = product_within gain.im sent.re 28 32768 917504 g.im b.re (omega arith) in omega (arith, h));
      difference = fits (gain.re *ℤ sent.re -ℤ gain.im *ℤ sent.im) (let h = product.re in omega (arith, h));
      total = fits (gain.re *ℤ sent.im +ℤ gain.im *ℤ sent.re) (let h = product.im in omega (arith, h));
      left_re = fits (sample.re -ℤ (gain.re *ℤ sent.re -ℤ gain.im *ℤ sent.im)) left.re;
      left_im = fits (sample.im -ℤ (gain.re *ℤ sent.im +ℤ gain.im *ℤ sent.re)) left.im;
      small = left;
    }
