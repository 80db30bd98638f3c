use Rattle.std.proofs.Common.{arith, w32, w64, FitsSigned, ◌+ℤ◌, ◌-ℤ◌}
use Rattle.std.proofs.lemmas.Int.{to_z-of_z, fits_signed_from_abs}
use Rattle.finite.proofs.Integers.{abs-sum, abs-difference}
use Rattle.pss_search.proofs.products.ProductSums.with_signal.Goals as goal

pub returns-clause-value : goal.returns-clause-value
returns-clause-value c =
    let p = c.args.self.now in
    let r = c.requires in
    let rr : FitsSigned w32 p.re_re = fits_signed_from_abs w32 _ (omega (arith, r.re_re)) in
    let ii : FitsSigned w32 p.im_im = fits_signed_from_abs w32 _ (omega (arith, r.im_im)) in
    let ir : FitsSigned w32 p.im_re = fits_signed_from_abs w32 _ (omega (arith, r.im_re)) in
    let ri : FitsSigned w32 p.re_im = fits_signed_from_abs w32 _ (omega (arith, r.re_im)) in
    let re : FitsSigned w32 (p.re_re -ℤ p.im_im) = fits_signed_from_abs w32 _ (omega (arith, r.re_re, r.im_im, abs-difference p.re_re p.im_im)) in
    let im : FitsSigned w32 (p.im_re +ℤ p.re_im) = fits_signed_from_abs w32 _ (omega (arith, r.im_re, r.re_im, abs-sum p.im_re p.re_im)) in
    let wide_re : FitsSigned w64 (p.re_re -ℤ p.im_im) = fits_signed_from_abs w64 _ (omega (arith, r.re_re, r.im_im, abs-difference p.re_re p.im_im)) in
    let wide_im : FitsSigned w64 (p.im_re +ℤ p.re_im) = fits_signed_from_abs w64 _ (omega (arith, r.im_re, r.re_im, abs-sum p.im_re p.re_im)) in
    simp to_z-of_z
