use Rattle.std.proofs.Common.{arith, ◌≡◌, ◌*◌, ◌^◌, ◌++◌, ◌∷◌, [], ◌∙◌, ap, ap₂, sym, subst, length}
use Rattle.std.specs.Prelude.{All}
use Rattle.std.proofs.lemmas.List.Elements.{All-push}
use Rattle.finite.specs.Lists.{values_below}
use Rattle.finite.proofs.Lists.{values_below_more}
use Rattle.cs_num.specs.Complex.{IsWithin}
use Rattle.wide_slot.specs.Lines.{smoothed_at, smoothed}
use Rattle.wide_slot.proofs.pilots.smooth.Goals as goal

pub loop-i-preserved : goal.loop-i-preserved
loop-i-preserved c = record {
  value = c.in_ok-push.ensures.items ∙ ap₂ (λ before last. before ++ (last ∷ [])) c.loop-i.invariant.value c.smoothed_value.ensures.value
      ∙ sym (values_below_more c.loop-i.i (smoothed_at c.args.weights c.args.pilots.now));
  small = subst (All (IsWithin (1440 * 2 ^ 25))) (sym c.in_ok-push.ensures.items) (All-push (IsWithin (1440 * 2 ^ 25)) _ _ c.loop-i.invariant.small c.smoothed_value.ensures.small);
}

pub returns-clause-value : goal.returns-clause-value
unfolding smoothed
returns-clause-value c =
    let last : c.loop-i.i ≡ length c.args.pilots.now = omega arith in
    c.loop-i.invariant.value ∙ ap (λ n. values_below n (smoothed_at c.args.weights c.args.pilots.now)) last
