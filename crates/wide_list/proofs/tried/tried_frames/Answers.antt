use Rattle.std.proofs.Common.{◌≡◌, ◌∙◌, ◌<◌, ◌↔◌, length, subst, sym, ap₂}
use Rattle.halving.specs.Wide.{narrowed}
use Rattle.explain.specs.System.{IsTried}
use Rattle.wide_list.proofs.Lengths.{tried_count, tried_below}
use Rattle.wide_list.proofs.tried.tried_frames.Goals as goal

pub returns-clause-tried : goal.returns-clause-tried
returns-clause-tried c i =
    let recording = narrowed c.args.wide.now in
    let same : c.min.result ≡ tried_count (length recording) c.args.start c.args.sfn =
    c.min.ensures ∙ ap₂ (λ long sfn. tried_count long c.args.start sfn) c.narrow_length.ensures.value c.value.ensures.value in
    subst (λ n. (i < n) ↔ IsTried recording c.args.start c.args.sfn i) (sym same) (tried_below recording c.args.start c.args.sfn i)
