use Rattle.std.proofs.Common.{arith, sym, subst, ap₂, ◌*◌, ◌^◌, ◌-ℤ◌, FitsSigned}
use Rattle.std.specs.Int.{w128}
use Rattle.std.proofs.lemmas.Int.{to_z-of_z, fits_signed_from_abs}
use Rattle.finite.proofs.Integers.{abs-difference}
use Rattle.cs_num.specs.Complex.{IsWithin, minus}
use Rattle.wide_slot.proofs.amplitude.Amplitude.minus.Goals as goal

pub returns-clause-value : goal.returns-clause-value
returns-clause-value c =
    let p = subst (IsWithin (17280 * 2 ^ 50)) (sym c.self.view_is) c.requires.small in
    let q = subst (IsWithin (17280 * 2 ^ 50)) (sym c.other.view_is) c.requires.other in
    let a : FitsSigned w128 c.self.inside.re = fits_signed_from_abs w128 _ (omega (arith, p.re)) in
    let b : FitsSigned w128 c.self.inside.im = fits_signed_from_abs w128 _ (omega (arith, p.im)) in
    let x : FitsSigned w128 c.other.inside.re = fits_signed_from_abs w128 _ (omega (arith, q.re)) in
    let y : FitsSigned w128 c.other.inside.im = fits_signed_from_abs w128 _ (omega (arith, q.im)) in
    let d : FitsSigned w128 (c.self.inside.re -ℤ c.other.inside.re) = fits_signed_from_abs w128 _ (omega (arith, p.re, q.re, abs-difference c.self.inside.re c.other.inside.re)) in
    let e : FitsSigned w128 (c.self.inside.im -ℤ c.other.inside.im) = fits_signed_from_abs w128 _ (omega (arith, p.im, q.im, abs-difference c.self.inside.im c.other.inside.im)) in
    simp to_z-of_z (ap₂ minus c.self.view_is c.other.view_is)
