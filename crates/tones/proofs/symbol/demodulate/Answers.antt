use Rattle.std.proofs.Common.{arith, ◌≡◌, ◌+◌, ◌/◌, ◌^◌, ◌++◌, ◌∷◌, [], ◌∙◌, ap, ap₂, sym, subst, length, ℕ, List}
use Rattle.std.specs.Prelude.{All, slice_range}
use Rattle.std.proofs.lemmas.List.Elements.{All-push}
use Rattle.finite.specs.Lists.{values_below}
use Rattle.finite.proofs.Lists.{values_below_more}
use Rattle.cs_num.specs.declared.Sample.{Sample}
use Rattle.cs_num.specs.Complex.{IsWithin, sample_at}
use Rattle.wide_cell.specs.Cell.{points, subcarriers}
use Rattle.tones.specs.Seen.{frequency, seen, seen_symbol}
use Rattle.tones.specs.Folding.{folded_samples, value_from}
use Rattle.tones.proofs.Rows.{folded_slice, folded-length, seen_is}
use Rattle.tones.proofs.symbol.demodulate.Goals.{After-deref, After-value_of}
use Rattle.tones.proofs.symbol.demodulate.Goals as goal

module _ (c : After-deref) where
  count_is : c.points.result ≡ points c.args.wide.now.rate
  count_is = c.points.ensures.value ∙ ap points c.rate-rate.ensures.value

  folded_is : c.deref.result.now ≡ folded_samples (points c.args.wide.now.rate / 4) (sample_at (slice_range c.args.wide.now.samples c.args.start (c.args.start + c.points.result)))
  folded_is =
      let long = ap (λ (xs : List Sample). length xs) c.as_slice.ensures.value in
      c.deref.ensures.value
      ∙ folded_slice c.as_slice.result.now c.args.start c.points.result c.in_ok-folded.folded.items (omega (arith, c.requires.inside, count_is, long)) c.in_ok-folded.ensures.value
      ∙ ap₂ (λ (q : ℕ) (xs : List Sample). folded_samples (q / 4) (sample_at (slice_range xs c.args.start (c.args.start + c.points.result)))) count_is c.as_slice.ensures.value

pub value_of-requires-clause-folded : goal.value_of-requires-clause-folded
value_of-requires-clause-folded c =
    folded-length (sample_at (slice_range c.args.wide.now.samples c.args.start (c.args.start + c.points.result))) c.args.wide.now.rate c.deref.result.now (folded_is c.before)
    ∙ ap points (sym c.rate-rate.ensures.value)

module _ (c : After-value_of) where
  value_of_is : c.value_of.result ≡ seen c.args.wide.now c.args.blocks c.args.start c.loop-k.k
  value_of_is =
      c.value_of.ensures.value
      ∙ ap (λ f. value_from c.deref.result.now c.rate-rate.result f) c.frequency_of.ensures.value
      ∙ ap (λ r. value_from c.deref.result.now r (frequency r c.args.blocks c.loop-k.k)) c.rate-rate.ensures.value
      ∙ ap (λ xs. value_from xs c.args.wide.now.rate (frequency c.args.wide.now.rate c.args.blocks c.loop-k.k)) (folded_is c.before.before)
      ∙ seen_is c.args.wide.now c.args.blocks c.args.start c.loop-k.k c.points.result c.rate-rate.ensures.valid.rate (count_is c.before.before)

pub loop-k-preserved : goal.loop-k-preserved
loop-k-preserved c = record {
  value = c.in_ok-push.ensures.items
      ∙ ap₂ (λ before last. before ++ (last ∷ [])) c.loop-k.invariant.value (value_of_is c.before.before.before)
      ∙ sym (values_below_more c.loop-k.k (seen c.args.wide.now c.args.blocks c.args.start));
  small = subst (All (IsWithin (2 ^ 25))) (sym c.in_ok-push.ensures.items) (All-push (IsWithin (2 ^ 25)) _ _ c.loop-k.invariant.small c.value_of.ensures.small);
}

pub returns-clause-value : goal.returns-clause-value
unfolding seen_symbol
returns-clause-value c =
    let last : c.loop-k.k ≡ subcarriers c.args.blocks = omega arith in
    c.loop-k.invariant.value ∙ ap (λ n. values_below n (seen c.args.wide.now c.args.blocks c.args.start)) last
