use Rattle.std.proofs.Common.{arith, ◌≡◌, ◌^◌, ◌≤◌, ◌∙◌, refl, pos, length-set, w64, to_z, of_z, FitsSigned}
use Rattle.std.proofs.lemmas.Int.{to_z-of_z, fits_signed_from_abs}
use Rattle.std.proofs.lemmas.List.Elements.{All-set, All-replicate}
use Rattle.std.proofs.lemmas.List.FromFn.{fill_by_all}
use Rattle.std.proofs.lemmas.List.Edits.{fill_by_more}
use Rattle.std.specs.Prelude.{nat_abs}
use Rattle.finite.proofs.Items.{item-within}
use Rattle.accumulated_sss.specs.Votes.{vote_of}
use Rattle.accumulated_sss.specs.Steps.{number_at, votes_of}
use Rattle.accumulated_sss.proofs.votes.votes_for.Goals as goal

pub loop-n-init : goal.loop-n-init
loop-n-init c = record {
  whole = refl;
  each = λ k below. absurd (omega arith);
  small = All-replicate (λ x. nat_abs x ≤ 2 ^ 57) 62 (pos 0) (omega arith);
}

pub vote-requires-clause-product : goal.vote-requires-clause-product
vote-requires-clause-product c =
    let number = number_at c.args.products.now c.loop-n.n in
    let less = item-within (2 ^ 57) c.args.products.now c.loop-n.n c.requires.products in
    let fits : FitsSigned w64 number = fits_signed_from_abs w64 number (omega (arith, less)) in
    simp to_z-of_z less

pub loop-n-preserved : goal.loop-n-preserved
loop-n-preserved c =
    let n = c.loop-n.n in
    let number = number_at c.args.products.now n in
    let less = item-within (2 ^ 57) c.args.products.now n c.requires.products in
    let given : FitsSigned w64 number = fits_signed_from_abs w64 number (omega (arith, less)) in
    let value : c.vote.result ≡ vote_of c.args.energy number = simp to_z-of_z at c.vote.ensures.value in
    let small = c.vote.ensures.small in
    let fits : FitsSigned w64 c.vote.result = fits_signed_from_abs w64 c.vote.result (omega arith) in
    let kept : to_z w64 (of_z w64 c.vote.result) ≡ c.vote.result = simp to_z-of_z in
    rw kept (record {
      whole = length-set c.loop-n.out n _ ∙ c.loop-n.invariant.whole;
      each = rw value (fill_by_more (λ k. vote_of c.args.energy (number_at c.args.products.now k)) c.loop-n.out n (pos 0) (omega arith) c.loop-n.invariant.each);
      small = All-set (λ x. nat_abs x ≤ 2 ^ 57) c.loop-n.out n c.vote.result small c.loop-n.invariant.small;
    })

pub returns-clause-value : goal.returns-clause-value
unfolding votes_of
returns-clause-value c =
    fill_by_all (λ k. vote_of c.args.energy (number_at c.args.products.now k)) c.loop-n.out 62 (pos 0) c.loop-n.invariant.whole
    (λ k l. c.loop-n.invariant.each k (omega arith))
