use Rattle.std.proofs.Common.{arith, ◌≡◌, ◌*◌, ◌/◌, ◌++◌, ◌∷◌, [], ◌∙◌, ap, ap₂, sym, subst, length}
use Rattle.std.specs.Prelude.{All}
use Rattle.std.proofs.lemmas.List.Elements.{All-push}
use Rattle.finite.specs.Lists.{values_below}
use Rattle.finite.proofs.Lists.{values_below_more}
use Rattle.cs_num.specs.Complex.{IsWithin, sample_at}
use Rattle.tones.specs.Folding.{folded_at, folded_samples}
use Rattle.tones.proofs.folding.fold.Goals as goal

pub loop-n-preserved : goal.loop-n-preserved
loop-n-preserved c = record {
  value = c.in_ok-push.ensures.items ∙ ap₂ (λ before last. before ++ (last ∷ [])) c.loop-n.invariant.value c.number_at.ensures.value
      ∙ sym (values_below_more c.loop-n.n (folded_at (length c.args.samples.now / 4) (sample_at c.args.samples.now)));
  small = subst (All (IsWithin 131072)) (sym c.in_ok-push.ensures.items) (All-push (IsWithin 131072) _ _ c.loop-n.invariant.small c.number_at.ensures.small);
}

pub returns-clause-value : goal.returns-clause-value
unfolding folded_samples
returns-clause-value c =
    let last : c.loop-n.n ≡ 4 * (length c.args.samples.now / 4) = omega (arith, c.requires.quarters) in
    c.loop-n.invariant.value ∙ ap (λ n. values_below n (folded_at (length c.args.samples.now / 4) (sample_at c.args.samples.now))) last
