use Rattle.std.proofs.Common.{arith, ◌≡◌, ◌∙◌, refl, length-set}
use Rattle.std.proofs.lemmas.List.Elements.{All-set, All-replicate}
use Rattle.std.proofs.lemmas.List.FromFn.{fill_by_all}
use Rattle.std.proofs.lemmas.List.Edits.{fill_by_more}
use Rattle.cs_num.specs.Complex.{IsWithin, nothing, sample_at}
use Rattle.fold128.specs.Folding.{quartet_at, folded_places, empty_quartet, AreWithin}
use Rattle.fold128.proofs.spectrum.fold.Goals as goal

nothing_small : IsWithin 131072 nothing
nothing_small = record { re = omega arith; im = omega arith }

pub loop-m-init : goal.loop-m-init
loop-m-init c = record {
  whole = refl;
  each = λ k below. absurd (omega arith);
  small = All-replicate (AreWithin 131072) 32 empty_quartet (record { zero = nothing_small; one = nothing_small; two = nothing_small; three = nothing_small });
}

pub loop-m-preserved : goal.loop-m-preserved
loop-m-preserved c =
    let here : c.fold_four.result ≡ quartet_at (sample_at c.args.samples.now) c.loop-m.m = cc in
    record {
      whole = length-set c.loop-m.folded c.loop-m.m _ ∙ c.loop-m.invariant.whole;
      each = rw here (fill_by_more (quartet_at (sample_at c.args.samples.now)) c.loop-m.folded c.loop-m.m empty_quartet (omega arith) c.loop-m.invariant.each);
      small = All-set (AreWithin 131072) c.loop-m.folded c.loop-m.m c.fold_four.result c.fold_four.ensures.small c.loop-m.invariant.small;
    }

pub returns-clause-value : goal.returns-clause-value
unfolding folded_places
returns-clause-value c =
    let last : c.loop-m.m ≡ 32 = omega arith in
    fill_by_all (quartet_at (sample_at c.args.samples.now)) c.loop-m.folded 32 empty_quartet c.loop-m.invariant.whole (λ k l. c.loop-m.invariant.each k (omega arith))
