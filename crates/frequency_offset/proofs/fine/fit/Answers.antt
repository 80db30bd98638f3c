use Rattle.std.proofs.Common.{rules, ◌≡◌, ◌∙◌, arith, ap, sym, subst, ℤ, to_z, of_z, w16, w64, FitsSigned}
use Rattle.std.proofs.lemmas.Nat.{mul-le}
use Rattle.std.proofs.lemmas.Int.{ints, to_z-of_z}
use Rattle.cs_num.specs.declared.Cpx.{Cpx}
use Rattle.cs_num.specs.Complex.{IsWithin, largest_part, times, conjugate}
use Rattle.cs_num.proofs.Complex.{largest_part-le, conjugate-within}
use Rattle.frequency_offset.specs.Turned.{w_of}
use Rattle.frequency_offset.specs.Fine.{fit}
use Rattle.frequency_offset.proofs.fine.fit.Goals as goal

widened : (m : ℤ) → FitsSigned w16 m → to_z w64 (of_z w64 (to_z w16 (of_z w16 m))) ≡ m
widened m f = let h = f.sfits in omega (arith, ints)

pub mul-requires : goal.mul-requires
mul-requires c =
    let turn = subst (IsWithin 16384) (sym c.conj.ensures) (conjugate-within c.w_at.result 16384 c.w_at.ensures.small) in
    let a = largest_part-le c.args.sum 70368744177664 c.requires in
    let b = largest_part-le c.conj.result 16384 turn in
    omega (arith, mul-le (largest_part c.args.sum) (largest_part c.conj.result) 70368744177664 16384 a b)

pub returns : goal.returns
unfolding fit
returns c =
    let f : FitsSigned w64 c.mul.result.re = search rules in
    let m : FitsSigned w16 c.args.m = search rules in
    to_z-of_z w64 c.mul.result.re f ∙ ap (λ (z : Cpx). z.re)
    (c.mul.ensures ∙ ap (times c.args.sum) (c.conj.ensures ∙ ap conjugate (c.w_at.ensures.value ∙ ap w_of (widened c.args.m m))))
