use Rattle.std.proofs.Common.{rules, arith, ◌≡◌, ◌*◌, ◌∙◌, ap, sym, subst, length, slice_index_or}
use Rattle.std.proofs.lemmas.List.Elements.{All-get_or}
use Rattle.cs_num.specs.Complex.{IsWithin}
use Rattle.cs_num.proofs.SoFar.{none_so_far, one_more, has_room, all_so_far}
use Rattle.fold128.specs.Folding.{empty_mirror, mirrored, mirrored_term, IsSmallMirror}
use Rattle.fold128.proofs.Entries.{w_small}
use Rattle.fold128.proofs.FoldSizes.{mirrored-within}
use Rattle.fold128.proofs.spectrum.mirrored_sum.Goals as goal

pub loop-m-init : goal.loop-m-init
loop-m-init c = none_so_far 8589934592 (mirrored_term c.args.row.now c.args.frequency)

pub product-requires-clause-mirror : goal.product-requires-clause-mirror
product-requires-clause-mirror c =
    let long : length c.args.row.now ≡ 17 = search rules in
    All-get_or IsSmallMirror c.args.row.now c.loop-m.m empty_mirror (omega arith) c.requires.small

pub product-requires-clause-w : goal.product-requires-clause-w
product-requires-clause-w c = subst (IsWithin 16384) (sym c.w.ensures) (w_small (c.args.frequency * c.loop-m.m))

module _ (c : goal.After-product) where
  term_is : c.product.result ≡ mirrored_term c.args.row.now c.args.frequency c.loop-m.m
  term_is = c.product.ensures ∙ ap (mirrored (slice_index_or c.args.row.now c.loop-m.m empty_mirror)) c.w.ensures

  term_small : IsWithin 8589934592 c.product.result
  term_small =
      let long : length c.args.row.now ≡ 17 = search rules in
      subst (IsWithin 8589934592) (sym term_is) (mirrored-within _ _ (All-get_or IsSmallMirror c.args.row.now c.loop-m.m empty_mirror (omega arith) c.requires.small) (w_small (c.args.frequency * c.loop-m.m)))

pub add-sum-requires : goal.add-sum-requires
add-sum-requires c = has_room 8589934592 c.loop-m.m (mirrored_term c.args.row.now c.args.frequency) c.loop-m.sum c.product.result c.loop-m.invariant (term_small c) (omega arith)

pub loop-m-preserved : goal.loop-m-preserved
loop-m-preserved c =
    one_more 8589934592 c.loop-m.m (mirrored_term c.args.row.now c.args.frequency) c.loop-m.sum c.product.result c.add-sum.result c.loop-m.invariant
    (term_is c.before) (term_small c.before) c.add-sum.ensures

pub returns : goal.returns
returns c = (all_so_far 8589934592 c.loop-m.m 17 (mirrored_term c.args.row.now c.args.frequency) c.loop-m.sum c.loop-m.invariant (omega arith)).0
