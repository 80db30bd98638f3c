use Rattle.std.proofs.Common.{◌∙◌, ap, ◌-◌}
use Rattle.cs_num.specs.Complex.{value_at}
use Rattle.observe.specs.Seen.{seen_symbol}
use Rattle.sss_detect.specs.Scores.{score}
use Rattle.sss_detect.specs.Second.{group_choice}
use Rattle.sss_detect.proofs.Scoring.{scores_of_hit}
use Rattle.sss_detect.proofs.group_choice_with.Goals as goal

pub returns : goal.returns
returns c =
    let hit = c.args.hit.now in
    c.best_of_group.ensures
    ∙ ap (λ primary. group_choice (score (value_at primary) (value_at c.symbol-2.result) hit.n2) c.args.n1) c.symbol.ensures.value
    ∙ ap (λ secondary. group_choice (score (value_at (seen_symbol c.args.recording.now hit.t)) (value_at secondary) hit.n2) c.args.n1)
    (c.symbol-2.ensures.value ∙ ap (λ step. seen_symbol c.args.recording.now (hit.t - step)) c.step.ensures)
    ∙ ap (λ scores. group_choice scores c.args.n1) (scores_of_hit c.args.prefix c.args.recording.now hit)
