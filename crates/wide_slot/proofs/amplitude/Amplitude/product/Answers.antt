use Rattle.std.proofs.Common.{rules, arith, sym, subst, ◌*◌, ◌^◌, w64, FitsSigned}
use Rattle.std.proofs.lemmas.Int.{to_z-of_z}
use Rattle.cs_num.specs.Complex.{IsWithin}
use Rattle.cs_num.proofs.Complex.{times-within}
use Rattle.wide_slot.proofs.Amplitudes.{products_fit}
use Rattle.wide_slot.proofs.amplitude.Amplitude.product.Goals as goal

pub overflow_sub-result : goal.overflow_sub-result
overflow_sub-result c =
    let p = products_fit c.args.channel c.args.seen c.requires.channel c.requires.seen in
    let f0 : FitsSigned w64 c.args.channel.re = search rules in
    let f1 : FitsSigned w64 c.args.channel.im = search rules in
    let f2 : FitsSigned w64 c.args.seen.re = search rules in
    let f3 : FitsSigned w64 c.args.seen.im = search rules in
    let p0 = p.h_re in
    let p1 = p.h_im in
    let p2 = p.a_re in
    let p3 = p.a_im in
    let p4 = p.re_re in
    let p5 = p.im_im in
    let p6 = p.re_im in
    let p7 = p.im_re in
    let p8 = p.difference in
    let p9 = p.total in
    simp to_z-of_z p.difference

pub overflow_add-result : goal.overflow_add-result
overflow_add-result c =
    let p = products_fit c.args.channel c.args.seen c.requires.channel c.requires.seen in
    let f0 : FitsSigned w64 c.args.channel.re = search rules in
    let f1 : FitsSigned w64 c.args.channel.im = search rules in
    let f2 : FitsSigned w64 c.args.seen.re = search rules in
    let f3 : FitsSigned w64 c.args.seen.im = search rules in
    let p0 = p.h_re in
    let p1 = p.h_im in
    let p2 = p.a_re in
    let p3 = p.a_im in
    let p4 = p.re_re in
    let p5 = p.im_im in
    let p6 = p.re_im in
    let p7 = p.im_re in
    let p8 = p.difference in
    let p9 = p.total in
    simp to_z-of_z p.total

pub returns-clause-value : goal.returns-clause-value
returns-clause-value c =
    let p = products_fit c.args.channel c.args.seen c.requires.channel c.requires.seen in
    let f0 : FitsSigned w64 c.args.channel.re = search rules in
    let f1 : FitsSigned w64 c.args.channel.im = search rules in
    let f2 : FitsSigned w64 c.args.seen.re = search rules in
    let f3 : FitsSigned w64 c.args.seen.im = search rules in
    let p0 = p.h_re in
    let p1 = p.h_im in
    let p2 = p.a_re in
    let p3 = p.a_im in
    let p4 = p.re_re in
    let p5 = p.im_im in
    let p6 = p.re_im in
    let p7 = p.im_re in
    let p8 = p.difference in
    let p9 = p.total in
    simp to_z-of_z

pub returns-clause-small : goal.returns-clause-small
returns-clause-small c =
    subst (IsWithin (17280 * 2 ^ 50)) (sym (returns-clause-value c))
    (times-within c.args.channel c.args.seen (8640 * 2 ^ 25) (2 ^ 25) (8640 * 2 ^ 50) c.requires.channel c.requires.seen (omega arith))
