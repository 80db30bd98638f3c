use Rattle.std.proofs.Common.{◌∙◌, ap, ℕ}
use Rattle.lte_types.specs.declared.frame.Half.{Half}
use Rattle.sss_detect.specs.Steps.{score_by}
use Rattle.sss_detect.specs.Second.{choice_of}
use Rattle.sss_detect.proofs.rank.scored_pair.Goals as goal

pub returns : goal.returns
returns c =
    let sums = c.args.sums.now in
    c.scored.ensures ∙ ap (λ (pair : ℕ × Half). choice_of (score_by sums.agreements.now sums.n2) pair) c.pair_at-n1.ensures.pair
