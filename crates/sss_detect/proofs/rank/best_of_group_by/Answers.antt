use Rattle.std.proofs.Common.{◌∙◌, ap₂, int_lt}
use Rattle.std.specs.Prelude.{if◌then◌else◌}
use Rattle.sss_detect.specs.declared.rank.Choice.{Choice}
use Rattle.sss_detect.specs.Second.{group_choice}
use Rattle.sss_detect.proofs.rank.best_of_group_by.Goals as goal

pub returns : goal.returns
unfolding group_choice
returns c =
    let made = c.new-sums in
    rw (← made.ensures.agreements, ← made.ensures.member)
    (c.better_pair.ensures ∙ ap₂ (λ (first later : Choice). if int_lt first.score later.score then later else first) c.scored.ensures c.scored-2.ensures)
