use Rattle.std.proofs.Common.{◌∙◌, ap, sym, subst, ℕ, ◌-◌}
use Rattle.cs_num.specs.Complex.{value_at}
use Rattle.lte_types.specs.declared.frame.Half.{Half}
use Rattle.observe.specs.Seen.{seen_symbol}
use Rattle.sss_detect.specs.Scores.{score}
use Rattle.sss_detect.specs.Identity.{IsBest, best_pair, prefix_scores, prefix_identity}
use Rattle.sss_detect.proofs.Scoring.{scores_of_hit}
use Rattle.sss_detect.proofs.Choices.{best_pair_is_best}
use Rattle.sss_detect.proofs.identity_with.Goals as goal

pub returns-clause-value : goal.returns-clause-value
unfolding prefix_identity
returns-clause-value c =
    let hit = c.args.hit.now in
    c.best.ensures.value
    ∙ ap (λ primary. best_pair (score (value_at primary) (value_at c.symbol-2.result) hit.n2)) c.symbol.ensures.value
    ∙ ap (λ secondary. best_pair (score (value_at (seen_symbol c.args.recording.now hit.t)) (value_at secondary) hit.n2))
    (c.symbol-2.ensures.value ∙ ap (λ step. seen_symbol c.args.recording.now (hit.t - step)) c.step.ensures)
    ∙ ap best_pair (scores_of_hit c.args.prefix c.args.recording.now hit)

pub returns-clause-best : goal.returns-clause-best
unfolding prefix_identity
returns-clause-best c =
    let scores = prefix_scores c.args.prefix c.args.recording.now c.args.hit.now in
    subst (λ (pair : ℕ × Half). IsBest scores pair.0 pair.1) (sym (returns-clause-value c)) (best_pair_is_best scores)
