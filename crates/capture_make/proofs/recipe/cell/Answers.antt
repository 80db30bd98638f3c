use Rattle.std.proofs.Common.{◌≡◌, Some, None, ap, sym, ◌∙◌}
use Rattle.cell_plan.specs.Plan.{refusal_of}
use Rattle.capture_make.proofs.Plans.{none_fails}
use Rattle.capture_make.proofs.recipe.cell.Goals as goal

pub unreachable-requires : goal.unreachable-requires
unreachable-requires c =
    let carrier = c.args.carrier in
    let refused : refusal_of carrier c.plan.result ≡ Some c.in-Err.field-0 = c.in-Err.ensures.refusal in
    let none : refusal_of carrier c.plan.result ≡ None = ap (refusal_of carrier) c.plan.ensures ∙ none_fails carrier c.args.n in
    let both : None ≡ Some c.in-Err.field-0 = sym none ∙ refused in
    absurd cc
