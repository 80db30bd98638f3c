use Rattle.std.proofs.Common.{◌∙◌, ap, sym, subst, ◌-◌}
use Rattle.cs_num.specs.Complex.{value_at}
use Rattle.observe.specs.Seen.{seen_symbol}
use Rattle.sss_detect.specs.declared.rank.Ranking.{Ranking}
use Rattle.sss_detect.specs.Scores.{score}
use Rattle.sss_detect.specs.Identity.{IsBest, prefix_scores}
use Rattle.sss_detect.specs.Second.{IsSecond, ranking_of, prefix_ranking}
use Rattle.sss_detect.proofs.Scoring.{scores_of_hit}
use Rattle.sss_detect.proofs.Choices.{best_pair_is_best}
use Rattle.sss_detect.proofs.Seconds.{second_pair_is_second}
use Rattle.sss_detect.proofs.ranking_with.Goals as goal

pub returns-clause-value : goal.returns-clause-value
unfolding prefix_ranking
returns-clause-value c =
    let hit = c.args.hit.now in
    c.best_two.ensures
    ∙ ap (λ primary. ranking_of (score (value_at primary) (value_at c.symbol-2.result) hit.n2)) c.symbol.ensures.value
    ∙ ap (λ secondary. ranking_of (score (value_at (seen_symbol c.args.recording.now hit.t)) (value_at secondary) hit.n2))
    (c.symbol-2.ensures.value ∙ ap (λ step. seen_symbol c.args.recording.now (hit.t - step)) c.step.ensures)
    ∙ ap ranking_of (scores_of_hit c.args.prefix c.args.recording.now hit)

pub returns-clause-best : goal.returns-clause-best
unfolding prefix_ranking ranking_of
returns-clause-best c =
    let scores = prefix_scores c.args.prefix c.args.recording.now c.args.hit.now in
    subst (λ (ranking : Ranking). IsBest scores ranking.best.n1 ranking.best.half) (sym (returns-clause-value c)) (best_pair_is_best scores)

pub returns-clause-second : goal.returns-clause-second
unfolding prefix_ranking ranking_of
returns-clause-second c =
    let scores = prefix_scores c.args.prefix c.args.recording.now c.args.hit.now in
    subst (λ (ranking : Ranking). IsSecond scores (ranking.best.n1, ranking.best.half) ranking.second.n1 ranking.second.half) (sym (returns-clause-value c)) (second_pair_is_second scores)
