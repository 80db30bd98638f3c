use Rattle.std.proofs.Common.{arith, ◌≡◌, ◌+◌, ◌-◌, ℕ, ℤ, sym, subst}
use Rattle.sss_detect.specs.Steps.{score_by}
use Rattle.sss_detect.proofs.Choices.{IsBestSoFar, best_of_one, better_of_two}
use Rattle.sss_detect.proofs.choose.best_of_half.Goals as goal

pub loop-n1-init : goal.loop-n1-init
loop-n1-init c = best_of_one (λ n1. score_by c.args.sums.now.agreements.now c.args.sums.now.n2 n1 c.args.half) c.scored-best.result c.scored-best.ensures.group c.scored-best.ensures.score

pub loop-n1-preserved : goal.loop-n1-preserved
loop-n1-preserved c =
    let f : ℕ → ℤ = λ n1. score_by c.args.sums.now.agreements.now c.args.sums.now.n2 n1 c.args.half in
    let n = c.loop-n1.n1 in
    let next : n + 1 - 1 ≡ n = omega arith in
    subst (λ (m : ℕ). IsBestSoFar f m c.better_group-best.result) (sym next)
    (better_of_two f n c.loop-n1.best c.scored.result c.better_group-best.result (omega arith) c.loop-n1.invariant c.scored.ensures.group c.scored.ensures.score c.better_group-best.ensures)
