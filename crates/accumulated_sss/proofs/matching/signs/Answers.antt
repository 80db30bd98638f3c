use Rattle.std.proofs.Common.{◌≡◌, ◌∙◌, ◌≤◌, ◌^◌, ℤ, pos, negsuc, refl, arith, length-set, to_z, of_z, FitsSigned}
use Rattle.std.specs.Int.{w8, w128, int_signum}
use Rattle.std.specs.Prelude.{nat_abs}
use Rattle.std.proofs.lemmas.Int.{to_z-of_z, fits_signed_from_abs}
use Rattle.std.proofs.lemmas.List.Elements.{All-set, All-replicate}
use Rattle.std.proofs.lemmas.List.FromFn.{fill_by_all}
use Rattle.std.proofs.lemmas.List.Edits.{fill_by_more}
use Rattle.finite.proofs.Items.{item-within}
use Rattle.accumulated_sss.specs.Steps.{number_at, signs_of}
use Rattle.accumulated_sss.proofs.matching.signs.Goals as goal

signum-size : (z : ℤ) → nat_abs (int_signum z) ≤ 1
signum-size (pos n) = omega arith
signum-size (negsuc n) = omega arith

pub loop-n-init : goal.loop-n-init
loop-n-init c = record {
  whole = refl;
  each = λ k below. absurd (omega arith);
  small = All-replicate (λ x. nat_abs x ≤ 1) 62 (pos 0) (omega arith);
}

pub loop-n-preserved : goal.loop-n-preserved
loop-n-preserved c =
    let n = c.loop-n.n in
    let number = number_at c.args.sums.now n in
    let less = item-within (2 ^ 64) c.args.sums.now n c.requires in
    let fits : FitsSigned w128 number = fits_signed_from_abs w128 number (omega (arith, less)) in
    let value : c.signum.result ≡ int_signum number = simp to_z-of_z at c.signum.ensures.value in
    let small : nat_abs c.signum.result ≤ 1 = rw value (signum-size number) in
    let wide : FitsSigned w128 c.signum.result = fits_signed_from_abs w128 c.signum.result (omega arith) in
    let narrow : FitsSigned w8 c.signum.result = fits_signed_from_abs w8 c.signum.result (omega arith) in
    let kept : to_z w8 (of_z w8 (to_z w128 (of_z w128 c.signum.result))) ≡ c.signum.result = simp to_z-of_z in
    rw kept (record {
      whole = length-set c.loop-n.out n _ ∙ c.loop-n.invariant.whole;
      each = rw value (fill_by_more (λ k. int_signum (number_at c.args.sums.now k)) c.loop-n.out n (pos 0) (omega arith) c.loop-n.invariant.each);
      small = All-set (λ x. nat_abs x ≤ 1) c.loop-n.out n c.signum.result small c.loop-n.invariant.small;
    })

pub returns-clause-value : goal.returns-clause-value
unfolding signs_of
returns-clause-value c =
    fill_by_all (λ k. int_signum (number_at c.args.sums.now k)) c.loop-n.out 62 (pos 0) c.loop-n.invariant.whole
    (λ k l. c.loop-n.invariant.each k (omega arith))
