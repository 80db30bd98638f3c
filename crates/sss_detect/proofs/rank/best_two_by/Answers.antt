use Rattle.std.proofs.Common.{◌≡◌, arith, subst, ℕ}
use Rattle.sss_detect.specs.Steps.{score_by}
use Rattle.sss_detect.proofs.Seconds.{AreBestTwo, first_two, one_more, all_pairs}
use Rattle.sss_detect.proofs.rank.best_two_by.Goals as goal

pub loop-place-init : goal.loop-place-init
loop-place-init c =
    let scores = score_by c.new-sums.result.agreements.now c.new-sums.result.n2 in
    first_two scores c.scored_pair.result c.scored_pair-2.result c.in_order-ranking.result c.scored_pair.ensures c.scored_pair-2.ensures c.in_order-ranking.ensures

pub loop-place-preserved : goal.loop-place-preserved
loop-place-preserved c =
    let scores = score_by c.new-sums.result.agreements.now c.new-sums.result.n2 in
    one_more scores c.loop-place.place c.loop-place.ranking c.with_next-ranking.result c.scored_pair-in-loop-place.result c.loop-place.invariant c.scored_pair-in-loop-place.ensures c.with_next-ranking.ensures

pub returns : goal.returns
returns c =
    let scores = score_by c.new-sums.result.agreements.now c.new-sums.result.n2 in
    let last : c.loop-place.place ≡ 336 = omega arith in
    let all = subst (λ (count : ℕ). AreBestTwo scores count c.loop-place.ranking) last c.loop-place.invariant in
    rw (← c.new-sums.ensures.agreements, ← c.new-sums.ensures.member) (all_pairs scores c.loop-place.ranking all)
