use Rattle.std.proofs.Common.{rules, arith, ◌-ℤ◌, w64, FitsSigned}
use Rattle.std.proofs.lemmas.Int.{to_z-of_z, fits_signed_from_abs}
use Rattle.finite.proofs.Integers.{abs-difference}
use Rattle.cs_num.proofs.CpxSub.sub.Goals as goal

pub returns : goal.returns
returns c =
    let a : FitsSigned w64 c.args.self.re = search rules in
    let b : FitsSigned w64 c.args.other.re = search rules in
    let a' : FitsSigned w64 c.args.self.im = search rules in
    let b' : FitsSigned w64 c.args.other.im = search rules in
    let s : FitsSigned w64 (c.args.self.re -ℤ c.args.other.re) = fits_signed_from_abs w64 _ (omega (arith, abs-difference c.args.self.re c.args.other.re)) in
    let s' : FitsSigned w64 (c.args.self.im -ℤ c.args.other.im) = fits_signed_from_abs w64 _ (omega (arith, abs-difference c.args.self.im c.args.other.im)) in
    simp to_z-of_z
