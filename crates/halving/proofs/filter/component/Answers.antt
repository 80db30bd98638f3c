use Rattle.std.proofs.Common.{rules, w64, FitsSigned}
use Rattle.std.proofs.lemmas.Int.{to_z-of_z}
use Rattle.halving.proofs.Folded.{parts_fit, folded_within}
use Rattle.halving.proofs.filter.component.Goals as goal

pub overflow_add-result-2 : goal.overflow_add-result-2
overflow_add-result-2 c =
    let p = parts_fit c.args.middle c.args.first c.args.third c.args.fifth c.args.seventh c.requires.middle c.requires.first c.requires.third c.requires.fifth c.requires.seventh in
    let m : FitsSigned w64 c.args.middle = search rules in
    let a : FitsSigned w64 c.args.first = search rules in
    let b : FitsSigned w64 c.args.third = search rules in
    let d : FitsSigned w64 c.args.fifth = search rules in
    let e : FitsSigned w64 c.args.seventh = search rules in
    let p1 = p.middle in
    let p2 = p.first in
    let p3 = p.two in
    let p4 = p.third in
    let p5 = p.three in
    let p6 = p.fifth in
    let p7 = p.four in
    let p8 = p.seventh in
    let p9 = p.five in
    simp to_z-of_z p.four

pub overflow_sub-result-2 : goal.overflow_sub-result-2
overflow_sub-result-2 c =
    let p = parts_fit c.args.middle c.args.first c.args.third c.args.fifth c.args.seventh c.requires.middle c.requires.first c.requires.third c.requires.fifth c.requires.seventh in
    let m : FitsSigned w64 c.args.middle = search rules in
    let a : FitsSigned w64 c.args.first = search rules in
    let b : FitsSigned w64 c.args.third = search rules in
    let d : FitsSigned w64 c.args.fifth = search rules in
    let e : FitsSigned w64 c.args.seventh = search rules in
    let p1 = p.middle in
    let p2 = p.first in
    let p3 = p.two in
    let p4 = p.third in
    let p5 = p.three in
    let p6 = p.fifth in
    let p7 = p.four in
    let p8 = p.seventh in
    let p9 = p.five in
    simp to_z-of_z p.five

pub returns-clause-value : goal.returns-clause-value
returns-clause-value c =
    let p = parts_fit c.args.middle c.args.first c.args.third c.args.fifth c.args.seventh c.requires.middle c.requires.first c.requires.third c.requires.fifth c.requires.seventh in
    let m : FitsSigned w64 c.args.middle = search rules in
    let a : FitsSigned w64 c.args.first = search rules in
    let b : FitsSigned w64 c.args.third = search rules in
    let d : FitsSigned w64 c.args.fifth = search rules in
    let e : FitsSigned w64 c.args.seventh = search rules in
    let p1 = p.middle in
    let p2 = p.first in
    let p3 = p.two in
    let p4 = p.third in
    let p5 = p.three in
    let p6 = p.fifth in
    let p7 = p.four in
    let p8 = p.seventh in
    let p9 = p.five in
    simp to_z-of_z

pub returns-clause-small : goal.returns-clause-small
returns-clause-small c =
    let p = parts_fit c.args.middle c.args.first c.args.third c.args.fifth c.args.seventh c.requires.middle c.requires.first c.requires.third c.requires.fifth c.requires.seventh in
    let m : FitsSigned w64 c.args.middle = search rules in
    let a : FitsSigned w64 c.args.first = search rules in
    let b : FitsSigned w64 c.args.third = search rules in
    let d : FitsSigned w64 c.args.fifth = search rules in
    let e : FitsSigned w64 c.args.seventh = search rules in
    let p1 = p.middle in
    let p2 = p.first in
    let p3 = p.two in
    let p4 = p.third in
    let p5 = p.three in
    let p6 = p.fifth in
    let p7 = p.four in
    let p8 = p.seventh in
    let p9 = p.five in
    simp to_z-of_z (folded_within c.args.middle c.args.first c.args.third c.args.fifth c.args.seventh c.requires.middle c.requires.first c.requires.third c.requires.fifth c.requires.seventh)
