use Rattle.std.proofs.Common.{◌≡◌, ℕ, nat_abs, arith, refl, ◌∙◌, ap}
use Rattle.finite.specs.Sums.{total_below}
use Rattle.finite.proofs.Sums.{total_below_more}
use Rattle.finite.specs.Tables.{sum_at}
use Rattle.pbch.specs.Master.{total}
use Rattle.pbch.proofs.by_phase.total_of.Goals as goal

pub loop-place-init : goal.loop-place-init
unfolding total_below
loop-place-init c = record { so_far = refl; small = omega arith }

pub loop-place-preserved : goal.loop-place-preserved
loop-place-preserved c =
    let size : ℕ → ℕ = λ k. total_below 3 (λ t. nat_abs (sum_at c.args.values.now k t)) in
    let before = c.loop-place.invariant.so_far in
    let small = c.loop-place.invariant.small in
    let here = c.weight_of-total.ensures.value in
    let bound = c.weight_of-total.ensures.bound in
    let more = total_below_more c.loop-place.place-index size in
    record { so_far = cc; small = omega arith }

pub returns : goal.returns
unfolding total
returns c =
    let last : c.loop-place.place-index ≡ 40 = omega (arith, c.told-values) in
    c.loop-place.invariant.so_far ∙ ap (λ n. total_below n (λ k. total_below 3 (λ t. nat_abs (sum_at c.args.values.now k t)))) last
