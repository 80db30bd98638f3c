use Rattle.std.proofs.Common.{◌≡◌, ◌∙◌, ◌+◌, ◌*◌, ◌^◌, ◌≤◌, ℕ, List, ℤ, ◌+ℤ◌, ◌*ℤ◌, arith, ap, sym, subst, to_z, of_z, FitsSigned}
use Rattle.std.specs.Int.{w8, w128}
use Rattle.std.specs.Prelude.{nat_abs}
use Rattle.std.proofs.lemmas.Int.{to_z-of_z, fits_signed_from_abs}
use Rattle.finite.specs.Sizes.{AllWithin}
use Rattle.finite.specs.Sums.{sum_below}
use Rattle.finite.proofs.Integers.{abs-sum, product_within}
use Rattle.finite.proofs.Items.{item-within}
use Rattle.finite.proofs.Sums.{sum_below_none, sum_below_more, sum_below-within}
use Rattle.accumulated_sss.specs.Steps.{number_at, signed_sum}
use Rattle.accumulated_sss.proofs.matching.signed_sum.Goals as goal

abbrev term : List ℤ → List ℤ → ℕ → ℤ
term sums sequence k = number_at sequence k *ℤ number_at sums k

term-size : (sums sequence : List ℤ) (k : ℕ) → AllWithin (2 ^ 64) sums → AllWithin 1 sequence → nat_abs (term sums sequence k) ≤ 2 ^ 64
term-size sums sequence k p q =
    product_within (number_at sequence k) (number_at sums k) 1 (2 ^ 64) (2 ^ 64) (item-within 1 sequence k q) (item-within (2 ^ 64) sums k p) (omega arith)

sum-size : (sums sequence : List ℤ) (n : ℕ) → AllWithin (2 ^ 64) sums → AllWithin 1 sequence → nat_abs (sum_below n (term sums sequence)) ≤ n * 2 ^ 64
sum-size sums sequence n p q = sum_below-within n (2 ^ 64) (term sums sequence) (λ k _. term-size sums sequence k p q)

pub loop-n-init : goal.loop-n-init
loop-n-init c = sym (sum_below_none (term c.args.sums.now c.args.sequence.now))

pub overflow_add-sum : goal.overflow_add-sum
overflow_add-sum c =
    let n = c.loop-n.n in
    let f = term c.args.sums.now c.args.sequence.now in
    let a = number_at c.args.sequence.now n in
    let b = number_at c.args.sums.now n in
    let so_far : to_z w128 c.loop-n.sum-bits ≡ sum_below n f = c.loop-n.invariant in
    let size = sum-size c.args.sums.now c.args.sequence.now n c.requires.sums c.requires.sequence in
    let one = item-within 1 c.args.sequence.now n c.requires.sequence in
    let number = item-within (2 ^ 64) c.args.sums.now n c.requires.sums in
    let product = term-size c.args.sums.now c.args.sequence.now n c.requires.sums c.requires.sequence in
    let sum = abs-sum (sum_below n f) (a *ℤ b) in
    let narrow : FitsSigned w8 a = fits_signed_from_abs w8 a (omega (arith, one)) in
    let wide : FitsSigned w128 a = fits_signed_from_abs w128 a (omega (arith, one)) in
    let other : FitsSigned w128 b = fits_signed_from_abs w128 b (omega (arith, number)) in
    let both : FitsSigned w128 (a *ℤ b) = fits_signed_from_abs w128 (a *ℤ b) (omega (arith, product)) in
    let fits : FitsSigned w128 (sum_below n f +ℤ a *ℤ b) = fits_signed_from_abs w128 _ (omega (arith, size, product, sum)) in
    rw so_far (simp to_z-of_z fits)

pub loop-n-preserved : goal.loop-n-preserved
loop-n-preserved c =
    let n = c.loop-n.n in
    let f = term c.args.sums.now c.args.sequence.now in
    let a = number_at c.args.sequence.now n in
    let b = number_at c.args.sums.now n in
    let so_far : to_z w128 c.loop-n.sum-bits ≡ sum_below n f = c.loop-n.invariant in
    let size = sum-size c.args.sums.now c.args.sequence.now n c.requires.sums c.requires.sequence in
    let one = item-within 1 c.args.sequence.now n c.requires.sequence in
    let number = item-within (2 ^ 64) c.args.sums.now n c.requires.sums in
    let product = term-size c.args.sums.now c.args.sequence.now n c.requires.sums c.requires.sequence in
    let sum = abs-sum (sum_below n f) (a *ℤ b) in
    let narrow : FitsSigned w8 a = fits_signed_from_abs w8 a (omega (arith, one)) in
    let wide : FitsSigned w128 a = fits_signed_from_abs w128 a (omega (arith, one)) in
    let other : FitsSigned w128 b = fits_signed_from_abs w128 b (omega (arith, number)) in
    let both : FitsSigned w128 (a *ℤ b) = fits_signed_from_abs w128 (a *ℤ b) (omega (arith, product)) in
    let fits : FitsSigned w128 (sum_below n f +ℤ a *ℤ b) = fits_signed_from_abs w128 _ (omega (arith, size, product, sum)) in
    let all : to_z w128 (of_z w128 (to_z w128 c.loop-n.sum-bits +ℤ to_z w128 (of_z w128 (to_z w128 (of_z w128 (to_z w8 (of_z w8 a))) *ℤ to_z w128 (of_z w128 b))))) ≡ sum_below (n + 1) f =
    rw so_far (simp to_z-of_z (sym (sum_below_more n f))) in
    all

pub returns-clause-value : goal.returns-clause-value
unfolding signed_sum
returns-clause-value c =
    let last : c.loop-n.n ≡ 62 = omega arith in
    c.loop-n.invariant ∙ ap (λ n. sum_below n (term c.args.sums.now c.args.sequence.now)) last

pub returns-clause-small : goal.returns-clause-small
returns-clause-small c =
    let last : c.loop-n.n ≡ 62 = omega arith in
    let whole : to_z w128 c.loop-n.sum-bits ≡ sum_below 62 (term c.args.sums.now c.args.sequence.now) =
    c.loop-n.invariant ∙ ap (λ n. sum_below n (term c.args.sums.now c.args.sequence.now)) last in
    subst (λ z. nat_abs z ≤ 62 * 2 ^ 64) (sym whole) (sum-size c.args.sums.now c.args.sequence.now 62 c.requires.sums c.requires.sequence)
