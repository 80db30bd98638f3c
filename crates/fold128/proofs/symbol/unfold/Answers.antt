use Rattle.std.proofs.Common.{rules, arith, ◌≡◌, ◌∙◌, refl, length, length-set, slice_index_or}
use Rattle.std.proofs.lemmas.List.Elements.{All-set, All-get_or, All-replicate}
use Rattle.std.proofs.lemmas.List.FromFn.{fill_by_all}
use Rattle.std.proofs.lemmas.List.Edits.{fill_by_more}
use Rattle.cs_num.specs.Complex.{IsWithin, nothing}
use Rattle.fold128.specs.Folding.{unfolded, empty_quartet, AreWithin}
use Rattle.fold128.proofs.symbol.unfold.Goals as goal

nothing_small : IsWithin 4294967296 nothing
nothing_small = record { re = omega arith; im = omega arith }

pub loop-m-init : goal.loop-m-init
loop-m-init c = record {
  whole = refl;
  each = λ k below. absurd (omega arith);
  small = All-replicate (AreWithin 4294967296) 32 empty_quartet (record { zero = nothing_small; one = nothing_small; two = nothing_small; three = nothing_small });
}

pub unfold_four-requires : goal.unfold_four-requires
unfold_four-requires c =
    let long : length c.args.parts.now ≡ 32 = search rules in
    All-get_or (AreWithin 1073741824) c.args.parts.now c.loop-m.m empty_quartet (omega arith) c.requires

pub loop-m-preserved : goal.loop-m-preserved
loop-m-preserved c = record {
  whole = length-set c.loop-m.samples c.loop-m.m _ ∙ c.loop-m.invariant.whole;
  each = rw c.unfold_four.ensures.value (fill_by_more (λ k. unfolded (slice_index_or c.args.parts.now k empty_quartet)) c.loop-m.samples c.loop-m.m empty_quartet (omega arith) c.loop-m.invariant.each);
  small = All-set (AreWithin 4294967296) c.loop-m.samples c.loop-m.m c.unfold_four.result c.unfold_four.ensures.small c.loop-m.invariant.small;
}

pub returns-clause-value : goal.returns-clause-value
returns-clause-value c =
    let last : c.loop-m.m ≡ 32 = omega arith in
    fill_by_all (λ k. unfolded (slice_index_or c.args.parts.now k empty_quartet)) c.loop-m.samples 32 empty_quartet c.loop-m.invariant.whole (λ k l. c.loop-m.invariant.each k (omega arith))
