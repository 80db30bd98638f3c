use Rattle.std.proofs.Common.{◌≡◌, ◌∙◌, ap, arith, sym, subst, length}
use Rattle.cs_num.specs.Complex.{value_at}
use Rattle.finite.specs.Sizes.{AllWithin}
use Rattle.sss_detect.specs.Steps.{score_by}
use Rattle.sss_detect.specs.Second.{group_choice}
use Rattle.sss_detect.proofs.Scoring.{scores_are}
use Rattle.sss_detect.proofs.Small.{agreements-small}
use Rattle.sss_detect.proofs.rank.best_of_group.Goals as goal

pub best_of_group_by-requires-clause-small : goal.best_of_group_by-requires-clause-small
best_of_group_by-requires-clause-small c =
    let primary = c.args.pss_seen.now in
    let secondary = c.args.sss_seen.now in
    let long : length primary ≡ 72 = omega arith in
    let wide : length secondary ≡ 72 = omega arith in
    subst (AllWithin 142983425530265600) (sym c.agreements.ensures.value) (agreements-small primary secondary c.args.n2 long wide c.requires.primary c.requires.secondary)

pub returns : goal.returns
returns c =
    c.best_of_group_by.ensures ∙ ap (λ agreements. group_choice (score_by agreements c.args.n2) c.args.n1) c.agreements.ensures.value
    ∙ ap (λ scores. group_choice scores c.args.n1) (scores_are (value_at c.args.pss_seen.now) (value_at c.args.sss_seen.now) c.args.n2)
