use Rattle.std.proofs.Common.{arith, rules, sym, subst, w64, FitsSigned}
use Rattle.std.proofs.lemmas.Int.{to_z-of_z}
use Rattle.std.proofs.lemmas.Nat.{mul-le}
use Rattle.cs_num.specs.Complex.{IsWithin, largest_part}
use Rattle.cs_num.proofs.Complex.{times-within, conjugate-within, largest_part-le}
use Rattle.accumulated_sss.proofs.votes.product.Goals as goal

pub mul-requires : goal.mul-requires
mul-requires c =
    let z : IsWithin 2139095040 c.conj-conjugate.result = subst (IsWithin 2139095040) (sym c.conj-conjugate.ensures) (conjugate-within c.args.z 2139095040 c.requires.z) in
    omega (arith, mul-le (largest_part c.args.value) (largest_part c.conj-conjugate.result) 23726080 2139095040 (largest_part-le _ _ c.requires.value) (largest_part-le _ _ z))

pub returns-clause-small : goal.returns-clause-small
returns-clause-small c =
    let fits : FitsSigned w64 c.mul.result.re = search rules in
    let z : IsWithin 2139095040 c.conj-conjugate.result = subst (IsWithin 2139095040) (sym c.conj-conjugate.ensures) (conjugate-within c.args.z 2139095040 c.requires.z) in
    let small = times-within c.args.value c.conj-conjugate.result 23726080 2139095040 50752340046643200 c.requires.value z (omega arith) in
    let here = subst (IsWithin 101504680093286400) (sym c.mul.ensures) small in
    simp to_z-of_z (omega (arith, here.re))
