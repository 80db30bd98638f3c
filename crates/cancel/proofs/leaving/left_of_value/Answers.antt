use Rattle.std.proofs.Common.{rules, sym, subst, FitsSigned, w64}
use Rattle.std.proofs.lemmas.Int.{to_z-of_z}
use Rattle.cs_num.specs.declared.Cpx.{Cpx}
use Rattle.cs_num.specs.Complex.{IsWithin}
use Rattle.cancel.proofs.Narrow.{are_narrow}
use Rattle.cancel.proofs.leaving.left_of_value.Goals as goal

pub overflow_mul-result-2 : goal.overflow_mul-result-2
overflow_mul-result-2 c =
    let n = are_narrow c.args.value.now c.args.sent.now c.args.gain.now c.requires.value c.requires.sent c.requires.gain in
    let e : FitsSigned w64 c.args.sent.now.im = search rules in
    let h : FitsSigned w64 c.args.gain.now.im = search rules in
    let l = n.gain_im in
    let p = n.sent_im in
    simp to_z-of_z n.im_im

pub overflow_sub-result : goal.overflow_sub-result
overflow_sub-result c =
    let n = are_narrow c.args.value.now c.args.sent.now c.args.gain.now c.requires.value c.requires.sent c.requires.gain in
    let d : FitsSigned w64 c.args.sent.now.re = search rules in
    let e : FitsSigned w64 c.args.sent.now.im = search rules in
    let g : FitsSigned w64 c.args.gain.now.re = search rules in
    let h : FitsSigned w64 c.args.gain.now.im = search rules in
    let k = n.gain_re in
    let l = n.gain_im in
    let o = n.sent_re in
    let p = n.sent_im in
    let s = n.re_re in
    let t = n.im_im in
    simp to_z-of_z n.difference

pub overflow_sub-result-2 : goal.overflow_sub-result-2
overflow_sub-result-2 c =
    let n = are_narrow c.args.value.now c.args.sent.now c.args.gain.now c.requires.value c.requires.sent c.requires.gain in
    let a : FitsSigned w64 c.args.value.now.re = search rules in
    let d : FitsSigned w64 c.args.sent.now.re = search rules in
    let e : FitsSigned w64 c.args.sent.now.im = search rules in
    let g : FitsSigned w64 c.args.gain.now.re = search rules in
    let h : FitsSigned w64 c.args.gain.now.im = search rules in
    let k = n.gain_re in
    let l = n.gain_im in
    let o = n.sent_re in
    let p = n.sent_im in
    let q = n.sample_re in
    let s = n.re_re in
    let t = n.im_im in
    let w = n.difference in
    simp to_z-of_z n.left_re

pub overflow_mul-result-3 : goal.overflow_mul-result-3
overflow_mul-result-3 c =
    let n = are_narrow c.args.value.now c.args.sent.now c.args.gain.now c.requires.value c.requires.sent c.requires.gain in
    let e : FitsSigned w64 c.args.sent.now.im = search rules in
    let g : FitsSigned w64 c.args.gain.now.re = search rules in
    let k = n.gain_re in
    let p = n.sent_im in
    simp to_z-of_z n.re_im

pub overflow_mul-result-4 : goal.overflow_mul-result-4
overflow_mul-result-4 c =
    let n = are_narrow c.args.value.now c.args.sent.now c.args.gain.now c.requires.value c.requires.sent c.requires.gain in
    let d : FitsSigned w64 c.args.sent.now.re = search rules in
    let h : FitsSigned w64 c.args.gain.now.im = search rules in
    let l = n.gain_im in
    let o = n.sent_re in
    simp to_z-of_z n.im_re

pub overflow_add-result : goal.overflow_add-result
overflow_add-result c =
    let n = are_narrow c.args.value.now c.args.sent.now c.args.gain.now c.requires.value c.requires.sent c.requires.gain in
    let d : FitsSigned w64 c.args.sent.now.re = search rules in
    let e : FitsSigned w64 c.args.sent.now.im = search rules in
    let g : FitsSigned w64 c.args.gain.now.re = search rules in
    let h : FitsSigned w64 c.args.gain.now.im = search rules in
    let k = n.gain_re in
    let l = n.gain_im in
    let o = n.sent_re in
    let p = n.sent_im in
    let u = n.re_im in
    let v = n.im_re in
    simp to_z-of_z n.total

pub overflow_sub-result-3 : goal.overflow_sub-result-3
overflow_sub-result-3 c =
    let n = are_narrow c.args.value.now c.args.sent.now c.args.gain.now c.requires.value c.requires.sent c.requires.gain in
    let b : FitsSigned w64 c.args.value.now.im = search rules in
    let d : FitsSigned w64 c.args.sent.now.re = search rules in
    let e : FitsSigned w64 c.args.sent.now.im = search rules in
    let g : FitsSigned w64 c.args.gain.now.re = search rules in
    let h : FitsSigned w64 c.args.gain.now.im = search rules in
    let k = n.gain_re in
    let l = n.gain_im in
    let o = n.sent_re in
    let p = n.sent_im in
    let r = n.sample_im in
    let u = n.re_im in
    let v = n.im_re in
    let x = n.total in
    simp to_z-of_z n.left_im

pub returns-clause-value : goal.returns-clause-value
returns-clause-value c =
    let n = are_narrow c.args.value.now c.args.sent.now c.args.gain.now c.requires.value c.requires.sent c.requires.gain in
    let a : FitsSigned w64 c.args.value.now.re = search rules in
    let b : FitsSigned w64 c.args.value.now.im = search rules in
    let d : FitsSigned w64 c.args.sent.now.re = search rules in
    let e : FitsSigned w64 c.args.sent.now.im = search rules in
    let g : FitsSigned w64 c.args.gain.now.re = search rules in
    let h : FitsSigned w64 c.args.gain.now.im = search rules in
    let k = n.gain_re in
    let l = n.gain_im in
    let o = n.sent_re in
    let p = n.sent_im in
    let q = n.sample_re in
    let r = n.sample_im in
    let s = n.re_re in
    let t = n.im_im in
    let u = n.re_im in
    let v = n.im_re in
    let w = n.difference in
    let x = n.total in
    let y = n.left_re in
    let z = n.left_im in
    simp to_z-of_z

pub returns-clause-small : goal.returns-clause-small
returns-clause-small c =
    let n = are_narrow c.args.value.now c.args.sent.now c.args.gain.now c.requires.value c.requires.sent c.requires.gain in
    subst (λ (z : Cpx). IsWithin 4194304 z) (sym (returns-clause-value c)) n.small
