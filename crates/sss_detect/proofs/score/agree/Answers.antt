use Rattle.std.proofs.Common.{arith, rules, ◌≡◌, ◌∙◌, ap, sym, subst, w64, FitsSigned}
use Rattle.std.proofs.lemmas.Int.{to_z-of_z}
use Rattle.std.proofs.lemmas.Nat.{mul-le}
use Rattle.cs_num.specs.Complex.{IsWithin, largest_part, times, conjugate}
use Rattle.cs_num.proofs.Complex.{times-within, conjugate-within, largest_part-le}
use Rattle.sss_detect.proofs.Scoring.{agreement-size}
use Rattle.sss_detect.proofs.score.agree.Goals as goal

pub mul-channel-requires : goal.mul-channel-requires
mul-channel-requires c =
    let v : IsWithin 127 c.conj.result = subst (IsWithin 127) (sym c.conj.ensures) (conjugate-within c.args.value 127 c.requires.value) in
    omega (arith, mul-le (largest_part c.args.primary) (largest_part c.conj.result) 33554432 127 (largest_part-le _ _ c.requires.primary) (largest_part-le _ _ v))

pub conj-requires-2 : goal.conj-requires-2
conj-requires-2 c =
    let v : IsWithin 127 c.conj.result = subst (IsWithin 127) (sym c.conj.ensures) (conjugate-within c.args.value 127 c.requires.value) in
    let channel = times-within c.args.primary c.conj.result 33554432 127 4261412864 c.requires.primary v (omega arith) in
    rw c.mul-channel.ensures (omega (arith, channel.im))

pub mul-requires : goal.mul-requires
mul-requires c =
    let v : IsWithin 127 c.conj.result = subst (IsWithin 127) (sym c.conj.ensures) (conjugate-within c.args.value 127 c.requires.value) in
    let channel = conjugate-within _ 8522825728 (times-within c.args.primary c.conj.result 33554432 127 4261412864 c.requires.primary v (omega arith)) in
    let turned : IsWithin 8522825728 c.conj-2.result = subst (IsWithin 8522825728) (sym (c.conj-2.ensures ∙ ap conjugate c.mul-channel.ensures)) channel in
    omega (arith, mul-le (largest_part c.args.secondary) (largest_part c.conj-2.result) 33554432 8522825728 (largest_part-le _ _ c.requires.secondary) (largest_part-le _ _ turned))

pub returns-clause-small : goal.returns-clause-small
returns-clause-small c =
    let fits : FitsSigned w64 c.mul.result.re = search rules in
    let same : c.mul.result ≡ times c.args.secondary (conjugate (times c.args.primary (conjugate c.args.value))) =
    c.mul.ensures ∙ ap (times c.args.secondary) (c.conj-2.ensures ∙ ap conjugate (c.mul-channel.ensures ∙ ap (times c.args.primary) c.conj.ensures)) in
    let small = subst (IsWithin 576460752303423488) (sym same) (agreement-size c.args.primary c.args.secondary c.args.value c.requires.primary c.requires.secondary c.requires.value) in
    simp to_z-of_z small.re
