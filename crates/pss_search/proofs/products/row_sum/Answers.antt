use Rattle.std.proofs.Common.{◌≡◌, ℕ, ℤ, ◌+◌, ◌*◌, ◌≤◌, ◌+ℤ◌, ◌∙◌, ap₂, sym, subst, arith, refl, nat_abs, to_z, of_z, w32, FitsSigned}
use Rattle.std.proofs.lemmas.Int.{to_z-of_z, fits_signed_from_abs}
use Rattle.finite.specs.Sums.{sum_below}
use Rattle.finite.proofs.Integers.{abs-sum}
use Rattle.finite.proofs.Sums.{sum_below_more}
use Rattle.pss_search.specs.Products.{product_at}
use Rattle.pss_search.proofs.products.row_sum.Goals as goal

pub loop-n-init : goal.loop-n-init
unfolding sum_below
loop-n-init c = record { so_far = refl; small = omega arith }

pub loop-n-preserved : goal.loop-n-preserved
loop-n-preserved c =
    let f : ℕ → ℤ = λ n. product_at c.args.values.now c.args.o c.args.signal.now (32 * c.args.k + n) in
    let n = c.loop-n.n in
    let before : ℤ = to_z w32 c.loop-n.sum-bits in
    let here = c.product-sum.result in
    let so_far : before ≡ sum_below n f = c.loop-n.invariant.so_far in
    let value : here ≡ f n = c.product-sum.ensures.value in
    let size : nat_abs before ≤ n * 8355840 = c.loop-n.invariant.small in
    let small = c.product-sum.ensures.small in
    let both = abs-sum before here in
    let kept : FitsSigned w32 here = fits_signed_from_abs w32 here (omega (arith, small)) in
    let fits : FitsSigned w32 (before +ℤ here) = fits_signed_from_abs w32 _ (omega (arith, both, size, small, c.loop-n-test.true)) in
    let same : to_z w32 (of_z w32 (to_z w32 c.loop-n.sum-bits +ℤ to_z w32 (of_z w32 c.product-sum.result))) ≡ before +ℤ here = simp to_z-of_z in
    record {
      so_far = same ∙ ap₂ ◌+ℤ◌ so_far value ∙ sym (sum_below_more n f);
      small = subst (λ z. nat_abs z ≤ (n + 1) * 8355840) (sym same) (omega (arith, both, size, small));
    }
