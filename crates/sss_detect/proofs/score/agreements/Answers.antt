use Rattle.std.proofs.Common.{arith, ◌≡◌, ◌≤◌, ◌+◌, ◌∙◌, ap, sym, subst, refl, pos, length-set, w64, to_z, of_z, FitsSigned}
use Rattle.std.proofs.lemmas.Int.{to_z-of_z, fits_signed_from_abs}
use Rattle.std.proofs.lemmas.List.Elements.{All-set, All-replicate}
use Rattle.std.proofs.lemmas.List.FromFn.{fill_by_all}
use Rattle.std.proofs.lemmas.List.Edits.{fill_by_more}
use Rattle.std.specs.Prelude.{nat_abs}
use Rattle.cs_num.specs.Complex.{IsWithin, times, conjugate, value_at}
use Rattle.sync_seq.specs.Primary.{pss_at}
use Rattle.sync_seq.proofs.PrimaryValues.{pss-within, pss_list_at}
use Rattle.sss_detect.specs.Scores.{agreement}
use Rattle.sss_detect.specs.Steps.{agreements_of}
use Rattle.sss_detect.proofs.score.agreements.Goals as goal

pub loop-n-init : goal.loop-n-init
loop-n-init c = record {
  whole = refl;
  each = λ k below. absurd (omega arith);
  small = All-replicate (λ x. nat_abs x ≤ 576460752303423488) 62 (pos 0) (omega arith);
}

pub agree-requires-clause-value : goal.agree-requires-clause-value
agree-requires-clause-value c =
    let value : value_at c.pss-values.result c.loop-n.n ≡ pss_at c.args.n2 c.loop-n.n =
    ap (λ values. value_at values c.loop-n.n) c.pss-values.ensures ∙ pss_list_at c.args.n2 c.loop-n.n (omega arith) in
    subst (IsWithin 127) (sym value) (pss-within c.args.n2 c.loop-n.n)

pub loop-n-preserved : goal.loop-n-preserved
loop-n-preserved c =
    let primary = value_at c.args.primary.now in
    let secondary = value_at c.args.secondary.now in
    let n = c.loop-n.n in
    let value : value_at c.pss-values.result n ≡ pss_at c.args.n2 n = ap (λ values. value_at values n) c.pss-values.ensures ∙ pss_list_at c.args.n2 n (omega arith) in
    let here : c.agree.result ≡ agreement primary secondary c.args.n2 n =
    c.agree.ensures.value ∙ ap (λ v. (times (secondary (n + 5)) (conjugate (times (primary (n + 5)) (conjugate v)))).re) value in
    let small = c.agree.ensures.small in
    let fits : FitsSigned w64 c.agree.result = fits_signed_from_abs w64 c.agree.result (omega arith) in
    let kept : to_z w64 (of_z w64 c.agree.result) ≡ c.agree.result = simp to_z-of_z in
    rw kept (record {
      whole = length-set c.loop-n.out n _ ∙ c.loop-n.invariant.whole;
      each = rw here (fill_by_more (agreement primary secondary c.args.n2) c.loop-n.out n (pos 0) (omega arith) c.loop-n.invariant.each);
      small = All-set (λ x. nat_abs x ≤ 576460752303423488) c.loop-n.out n c.agree.result small c.loop-n.invariant.small;
    })

pub returns-clause-value : goal.returns-clause-value
unfolding agreements_of
returns-clause-value c =
    let last : c.loop-n.n ≡ 62 = omega arith in
    fill_by_all (agreement (value_at c.args.primary.now) (value_at c.args.secondary.now) c.args.n2) c.loop-n.out 62 (pos 0) c.loop-n.invariant.whole
    (λ k l. c.loop-n.invariant.each k (omega arith))
