use Rattle.std.proofs.Common.{◌≡◌, ℕ, ℤ, ◌+◌, ◌*◌, ◌≤◌, ◌+ℤ◌, ◌∙◌, ap₂, sym, subst, arith, refl, nat_abs, pos, get_or, to_z, of_z, w64, FitsSigned}
use Rattle.std.proofs.lemmas.Int.{to_z-of_z, fits_signed_from_abs}
use Rattle.finite.specs.Sums.{sum_below}
use Rattle.finite.proofs.Integers.{abs-sum}
use Rattle.finite.proofs.Sums.{sum_below_more}
use Rattle.code_distance.proofs.separation.sum_of_first.Goals as goal

pub loop-i-init : goal.loop-i-init
unfolding sum_below
loop-i-init c = record { so_far = refl; small = omega arith }

pub loop-i-preserved : goal.loop-i-preserved
loop-i-preserved c =
    let f : ℕ → ℤ = λ i. get_or c.args.values.now i (pos 0) in
    let i = c.loop-i.i in
    let before : ℤ = to_z w64 c.loop-i.sum-bits in
    let here = c.value_at-sum.result in
    let so_far : before ≡ sum_below i f = c.loop-i.invariant.so_far in
    let value : here ≡ f i = c.value_at-sum.ensures.value in
    let size : nat_abs before ≤ i * 2147483648 = c.loop-i.invariant.small in
    let small = c.value_at-sum.ensures.magnitude in
    let both = abs-sum before here in
    let kept : FitsSigned w64 here = fits_signed_from_abs w64 here (omega (arith, small)) in
    let fits : FitsSigned w64 (before +ℤ here) = fits_signed_from_abs w64 _ (omega (arith, both, size, small, c.loop-i-test.true)) in
    let same : to_z w64 (of_z w64 (to_z w64 c.loop-i.sum-bits +ℤ to_z w64 (of_z w64 c.value_at-sum.result))) ≡ before +ℤ here = simp to_z-of_z in
    record {
      so_far = same ∙ ap₂ ◌+ℤ◌ so_far value ∙ sym (sum_below_more i f);
      small = subst (λ z. nat_abs z ≤ (i + 1) * 2147483648) (sym same) (omega (arith, both, size, small));
    }
