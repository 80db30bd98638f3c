use Rattle.std.proofs.Common.{◌∙◌, ap, sym, subst, ℕ}
use Rattle.cs_num.specs.Complex.{value_at}
use Rattle.lte_types.specs.declared.frame.Half.{Half}
use Rattle.sss_detect.specs.Scores.{score}
use Rattle.sss_detect.specs.Steps.{score_by}
use Rattle.sss_detect.specs.Identity.{IsBest, best_pair}
use Rattle.sss_detect.proofs.Scoring.{scores_are}
use Rattle.sss_detect.proofs.Choices.{best_pair_is_best}
use Rattle.sss_detect.proofs.choose.best.Goals as goal

pub returns-clause-value : goal.returns-clause-value
returns-clause-value c =
    c.best_by.ensures ∙ ap (λ agreements. best_pair (score_by agreements c.args.n2)) c.agreements.ensures.value
    ∙ ap best_pair (scores_are (value_at c.args.pss_seen.now) (value_at c.args.sss_seen.now) c.args.n2)

pub returns-clause-best : goal.returns-clause-best
returns-clause-best c =
    let scores = score (value_at c.args.pss_seen.now) (value_at c.args.sss_seen.now) c.args.n2 in
    subst (λ (pair : ℕ × Half). IsBest scores pair.0 pair.1) (sym (returns-clause-value c)) (best_pair_is_best scores)
