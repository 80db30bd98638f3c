use Rattle.std.proofs.Common.{arith, ◌≡◌, ◌∙◌, refl, length-set}
use Rattle.std.proofs.lemmas.List.Elements.{All-set, All-replicate}
use Rattle.std.proofs.lemmas.List.FromFn.{fill_by_all}
use Rattle.std.proofs.lemmas.List.Edits.{fill_by_more}
use Rattle.cs_num.specs.Complex.{IsWithin, nothing}
use Rattle.fold128.specs.Folding.{mirror_at, mirrors, empty_mirror, IsSmallMirror}
use Rattle.fold128.proofs.spectrum.mirrors_of.Goals as goal

nothing_small : IsWithin 262144 nothing
nothing_small = record { re = omega arith; im = omega arith }

pub loop-m-init : goal.loop-m-init
loop-m-init c = record {
  whole = refl;
  each = λ k below. absurd (omega arith);
  small = All-replicate IsSmallMirror 17 empty_mirror (record { real = nothing_small; imaginary = nothing_small });
}

pub loop-m-preserved : goal.loop-m-preserved
loop-m-preserved c = record {
  whole = length-set c.loop-m.row c.loop-m.m _ ∙ c.loop-m.invariant.whole;
  each = rw c.mirror_of.ensures.value (fill_by_more (mirror_at c.args.folded.now c.args.residue) c.loop-m.row c.loop-m.m empty_mirror (omega arith) c.loop-m.invariant.each);
  small = All-set IsSmallMirror c.loop-m.row c.loop-m.m c.mirror_of.result c.mirror_of.ensures.small c.loop-m.invariant.small;
}

pub returns-clause-value : goal.returns-clause-value
unfolding mirrors
returns-clause-value c =
    let last : c.loop-m.m ≡ 17 = omega arith in
    fill_by_all (mirror_at c.args.folded.now c.args.residue) c.loop-m.row 17 empty_mirror c.loop-m.invariant.whole (λ k l. c.loop-m.invariant.each k (omega arith))
