use Rattle.std.proofs.Common.{rules, arith, ◌≡◌, ℕ, zero, suc, ◌%◌, ◌<◌, ◌∙◌, ap, sym, subst, refl, List, [], ◌∷◌, length, length-set, slice_index_or}
use Rattle.std.specs.Prelude.{All}
use Rattle.std.proofs.lemmas.List.Elements.{All-set, All-replicate}
use Rattle.std.proofs.lemmas.List.FromFn.{fill_by_all}
use Rattle.std.proofs.lemmas.List.Edits.{fill_by_more}
use Rattle.cs_num.specs.Complex.{IsWithin, nothing, sample_at}
use Rattle.cs_num.specs.Sums.{complex_sum_below}
use Rattle.fold128.specs.declared.quartet.Quartet.{Quartet}
use Rattle.fold128.specs.declared.spectrum.Mirror.{Mirror}
use Rattle.fold128.specs.Symbol.{frequency}
use Rattle.fold128.specs.Spectrum.{spectrum_at, spectrum}
use Rattle.fold128.specs.Folding.{folded_term, mirrors, mirrored_term, IsSmallMirror}
use Rattle.fold128.proofs.FoldSizes.{folded_sum-within}
use Rattle.fold128.proofs.Folds.{spectrum_folds, mirrors_fold}
use Rattle.fold128.proofs.spectrum.transform.Goals as goal

-- the row for a residue
row_is : (a b c d other : List Mirror) (folded : List Quartet) (r : ℕ) → r < 4 → a ≡ mirrors folded 0 → b ≡ mirrors folded 1 → c ≡ mirrors folded 2 → d ≡ mirrors folded 3
    → slice_index_or (a ∷ b ∷ c ∷ d ∷ []) r other ≡ mirrors folded r
row_is a b c d other folded zero few e f g h = e
row_is a b c d other folded (suc zero) few e f g h = f
row_is a b c d other folded (suc (suc zero)) few e f g h = g
row_is a b c d other folded (suc (suc (suc zero))) few e f g h = h
row_is a b c d other folded (suc (suc (suc (suc r)))) few e f g h = absurd (omega (arith, few))

row_small : (a b c d other : List Mirror) (r : ℕ) → r < 4 → All IsSmallMirror a → All IsSmallMirror b → All IsSmallMirror c → All IsSmallMirror d
    → All IsSmallMirror (slice_index_or (a ∷ b ∷ c ∷ d ∷ []) r other)
row_small a b c d other zero few e f g h = e
row_small a b c d other (suc zero) few e f g h = f
row_small a b c d other (suc (suc zero)) few e f g h = g
row_small a b c d other (suc (suc (suc zero))) few e f g h = h
row_small a b c d other (suc (suc (suc (suc r)))) few e f g h = absurd (omega (arith, few))

pub loop-k-init : goal.loop-k-init
loop-k-init c = record {
  whole = refl;
  each = λ k below. absurd (omega arith);
  small = All-replicate (IsWithin 97182023680) 72 nothing (record { re = omega arith; im = omega arith });
}

pub loop-k-preserved : goal.loop-k-preserved
loop-k-preserved c =
    let samples = sample_at c.args.samples.now in
    let folded : List Quartet = c.fold-folded.result in
    let f : ℕ = c.frequency_of-frequency.result in
    let long : length folded ≡ 32 = search rules in
    let sum = c.mirrored_sum.ensures
    ∙ ap (λ row. complex_sum_below 17 (mirrored_term row f))
    (row_is c.mirrors_of.result c.mirrors_of-2.result c.mirrors_of-3.result c.mirrors_of-4.result _ folded (f % 4) (omega arith) c.mirrors_of.ensures.value c.mirrors_of-2.ensures.value c.mirrors_of-3.ensures.value c.mirrors_of-4.ensures.value)
    ∙ mirrors_fold folded f in
    let here : c.mirrored_sum.result ≡ spectrum_at samples c.loop-k.k =
    sum ∙ ap (λ n. complex_sum_below 32 (folded_term folded n)) c.frequency_of-frequency.ensures.value
    ∙ ap (λ places. complex_sum_below 32 (folded_term places (frequency c.loop-k.k))) c.fold-folded.ensures.value
    ∙ spectrum_folds samples c.loop-k.k in
    record {
      whole = length-set c.loop-k.out c.loop-k.k _ ∙ c.loop-k.invariant.whole;
      each = rw here (fill_by_more (spectrum_at samples) c.loop-k.out c.loop-k.k nothing (omega arith) c.loop-k.invariant.each);
      small = All-set (IsWithin 97182023680) c.loop-k.out c.loop-k.k c.mirrored_sum.result
          (subst (IsWithin 97182023680) (sym sum) (folded_sum-within folded f 32 c.fold-folded.ensures.small (omega arith))) c.loop-k.invariant.small;
    }

pub returns-clause-value : goal.returns-clause-value
unfolding spectrum
returns-clause-value c =
    let last : c.loop-k.k ≡ 72 = omega arith in
    fill_by_all (spectrum_at (sample_at c.args.samples.now)) c.loop-k.out 72 nothing c.loop-k.invariant.whole (λ k l. c.loop-k.invariant.each k (omega arith))
