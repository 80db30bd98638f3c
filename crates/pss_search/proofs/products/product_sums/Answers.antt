use Rattle.std.proofs.Common.{arith, refl, w32, FitsSigned}
use Rattle.std.proofs.lemmas.Int.{to_z-of_z, fits_signed_from_abs}
use Rattle.pss_search.proofs.products.product_sums.Goals as goal

pub returns-clause-value : goal.returns-clause-value
returns-clause-value c =
    let a : FitsSigned w32 c.dot.result = fits_signed_from_abs w32 _ (omega (arith, c.dot.ensures.small)) in
    let b : FitsSigned w32 c.dot-2.result = fits_signed_from_abs w32 _ (omega (arith, c.dot-2.ensures.small)) in
    let d : FitsSigned w32 c.dot-3.result = fits_signed_from_abs w32 _ (omega (arith, c.dot-3.ensures.small)) in
    let e : FitsSigned w32 c.dot-4.result = fits_signed_from_abs w32 _ (omega (arith, c.dot-4.ensures.small)) in
    simp to_z-of_z (rw (c.dot.ensures.value, c.dot-2.ensures.value, c.dot-3.ensures.value, c.dot-4.ensures.value) refl)
