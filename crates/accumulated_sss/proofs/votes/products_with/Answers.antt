use Rattle.std.proofs.Common.{arith, rules, ◌≡◌, ◌+◌, ◌^◌, ◌≤◌, ◌∙◌, refl, pos, length, length-set, w64, to_z, of_z, FitsSigned}
use Rattle.std.proofs.lemmas.Int.{to_z-of_z, fits_signed_from_abs}
use Rattle.std.proofs.lemmas.List.Elements.{All-set, All-replicate, All-get_or}
use Rattle.std.proofs.lemmas.List.FromFn.{fill_by_all}
use Rattle.std.proofs.lemmas.List.Edits.{fill_by_more}
use Rattle.std.specs.Prelude.{nat_abs}
use Rattle.cs_num.specs.Complex.{IsWithin, nothing, value_at}
use Rattle.sync_seq.specs.Middle.{middle}
use Rattle.accumulated_sss.specs.Steps.{product_of, products_of}
use Rattle.accumulated_sss.proofs.votes.products_with.Goals as goal

pub loop-n-init : goal.loop-n-init
loop-n-init c = record {
  whole = refl;
  each = λ k below. absurd (omega arith);
  small = All-replicate (λ x. nat_abs x ≤ 2 ^ 57) 62 (pos 0) (omega arith);
}

pub product-requires-clause-value : goal.product-requires-clause-value
product-requires-clause-value c =
    let long : length c.args.seen.now ≡ 72 = search rules in
    All-get_or (IsWithin 23726080) c.args.seen.now (c.loop-n.n + 5) nothing (omega arith) c.requires.seen

pub loop-n-preserved : goal.loop-n-preserved
loop-n-preserved c =
    let n = c.loop-n.n in
    let small = c.product.ensures.small in
    let fits : FitsSigned w64 c.product.result = fits_signed_from_abs w64 c.product.result (omega arith) in
    let kept : to_z w64 (of_z w64 c.product.result) ≡ c.product.result = simp to_z-of_z in
    rw kept (record {
      whole = length-set c.loop-n.out n _ ∙ c.loop-n.invariant.whole;
      each = rw c.product.ensures.value (fill_by_more (λ k. product_of (value_at c.args.seen.now (middle k)) c.args.z) c.loop-n.out n (pos 0) (omega arith) c.loop-n.invariant.each);
      small = All-set (λ x. nat_abs x ≤ 2 ^ 57) c.loop-n.out n c.product.result small c.loop-n.invariant.small;
    })

pub returns-clause-value : goal.returns-clause-value
unfolding products_of
returns-clause-value c =
    fill_by_all (λ k. product_of (value_at c.args.seen.now (middle k)) c.args.z) c.loop-n.out 62 (pos 0) c.loop-n.invariant.whole
    (λ k l. c.loop-n.invariant.each k (omega arith))
