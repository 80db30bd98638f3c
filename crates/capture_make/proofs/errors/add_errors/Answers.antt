use Rattle.std.proofs.Common.{◌≡◌, ℕ, ◌<◌, ap, ap₂, sym, subst, refl, ◌∙◌, arith, get_or, length}
use Rattle.std.proofs.lemmas.List.{length-set, get_or-set_other}
use Rattle.std.proofs.lemmas.List.Edits.{fill_by_more}
use Rattle.std.proofs.Math.ListN.{set}
use Rattle.rand_pcg.specs.Lcg.{started, increment_of}
use Rattle.rand_pcg.specs.Pcg.{multiplier_64}
use Rattle.rand_pcg.proofs.LcgLemmas.{advance_zero}
use Rattle.finite.proofs.Lists.{values_below_is}
use Rattle.cs_num.specs.declared.Cpx.{Cpx}
use Rattle.cs_num.specs.declared.Sample.{Sample}
use Rattle.cs_num.specs.Complex.{plus, sample_at, silence, value_of, sample_of}
use Rattle.capture_make.specs.Errors.{error}
use Rattle.capture_make.proofs.Adding.{after_two, error_is}
use Rattle.capture_make.proofs.errors.add_errors.Goals as goal

pub loop-i-init : goal.loop-i-init
loop-i-init c = record {
  size = refl;
  done = λ k below. absurd (omega (arith, below));
  rest = λ k above. refl;
  words = c.new-words.ensures ∙ sym (advance_zero 64 multiplier_64 (started 64 multiplier_64 c.args.n (increment_of 64 1)));
}

pub loop-i-preserved : goal.loop-i-preserved
loop-i-preserved c =
    let i = c.loop-i.i in
    let old = c.args.samples.now in
    let so_far = c.loop-i.samples in
    let f : ℕ → Sample = λ k. sample_of (plus (sample_at old k) (error c.args.n c.args.bound k)) in
    let same = c.loop-i.invariant.size in
    let inside : i < length so_far = omega (arith, same, c.loop-i-test.true) in
    let drawn : value_of c.draw_error.result ≡ error c.args.n c.args.bound i =
    error_is c.args.n c.args.bound i c.draw_error.result c.loop-i.words c.loop-i.invariant.words c.draw_error.ensures.re c.draw_error.ensures.im in
    let clean : value_of (get_or so_far i silence) ≡ sample_at old i = ap value_of (c.loop-i.invariant.rest i (omega arith)) in
    let is : c.with_error.result ≡ f i = c.with_error.ensures ∙ ap₂ (λ (a b : Cpx). sample_of (plus a b)) clean drawn in
    record {
      size = length-set so_far i c.with_error.result ∙ c.loop-i.invariant.size;
      done = λ k below. subst (λ v. get_or (set so_far i v) k silence ≡ f k) (sym is) (fill_by_more f so_far i silence inside c.loop-i.invariant.done k below);
      rest = λ k above. get_or-set_other so_far i k c.with_error.result silence (λ same. omega (arith, same, above)) ∙ c.loop-i.invariant.rest k (omega (arith, above));
      words = c.draw_error.ensures.next ∙ after_two c.args.n i c.loop-i.words c.loop-i.invariant.words;
    }

pub returns : goal.returns
returns c =
    let old = c.args.samples.now in
    let same = c.loop-i.invariant.size in
    values_below_is silence (length old) (λ i. sample_of (plus (sample_at old i) (error c.args.n c.args.bound i))) c.loop-i.samples same
    (λ k below. c.loop-i.invariant.done k (omega (arith, below, same, c.loop-i-test.false, c.loop-i.auto.samples, c.loop-i.auto.i-end)))
