use Rattle.std.proofs.Common.{◌≡◌, ◌∙◌, ◌^◌, pos, ◌+ℤ◌, arith, length-set, to_z, of_z, w64, FitsSigned}
use Rattle.std.specs.Int.{w128}
use Rattle.std.proofs.lemmas.Int.{to_z-of_z, fits_signed_from_abs}
use Rattle.std.proofs.lemmas.List.FromFn.{fill_by_all}
use Rattle.std.proofs.lemmas.List.Edits.{fill_by_more}
use Rattle.finite.proofs.Integers.{abs-sum}
use Rattle.finite.proofs.Items.{item-within}
use Rattle.accumulated_sss.specs.Steps.{number_at, added}
use Rattle.accumulated_sss.proofs.rows.added.Goals as goal

pub loop-n-preserved : goal.loop-n-preserved
loop-n-preserved c =
    let n = c.loop-n.n in
    let a = number_at c.args.sums.now n in
    let b = number_at c.args.values.now n in
    let small_a = item-within (2 ^ 64) c.args.sums.now n c.requires.sums in
    let small_b = item-within (2 ^ 57) c.args.values.now n c.requires.values in
    let sum = abs-sum a b in
    let first : FitsSigned w128 a = fits_signed_from_abs w128 a (omega (arith, small_a)) in
    let second : FitsSigned w64 b = fits_signed_from_abs w64 b (omega (arith, small_b)) in
    let wide : FitsSigned w128 b = fits_signed_from_abs w128 b (omega (arith, small_b)) in
    let both : FitsSigned w128 (a +ℤ b) = fits_signed_from_abs w128 (a +ℤ b) (omega (arith, small_a, small_b, sum)) in
    let kept : to_z w128 (of_z w128 (to_z w128 (of_z w128 a) +ℤ to_z w128 (of_z w128 (to_z w64 (of_z w64 b))))) ≡ a +ℤ b = simp to_z-of_z in
    rw kept (record {
      whole = length-set c.loop-n.out n _ ∙ c.loop-n.invariant.whole;
      each = fill_by_more (λ k. number_at c.args.sums.now k +ℤ number_at c.args.values.now k) c.loop-n.out n (pos 0) (omega arith) c.loop-n.invariant.each;
    })

pub returns : goal.returns
unfolding added
returns c =
    fill_by_all (λ k. number_at c.args.sums.now k +ℤ number_at c.args.values.now k) c.loop-n.out 62 (pos 0) c.loop-n.invariant.whole
    (λ k l. c.loop-n.invariant.each k (omega arith))
