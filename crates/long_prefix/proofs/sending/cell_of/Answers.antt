use Rattle.std.proofs.Common.{◌≡◌, Some, None, sym, subst, ◌∙◌}
use Rattle.lte_types.specs.declared.carrier.Carrier.TheVariants.{LongPrefix}
use Rattle.cell_plan.specs.Plan.{refusal_of}
use Rattle.long_prefix.specs.Sent.{HasPlan}
use Rattle.long_prefix.proofs.sending.cell_of.Goals as goal

pub unreachable-requires : goal.unreachable-requires
unreachable-requires c =
    let refused : refusal_of LongPrefix c.cell_plan.result ≡ Some c.in-Err.field-0 = c.in-Err.ensures.refusal in
    let both : None ≡ Some c.in-Err.field-0 = sym c.cell_plan.ensures.accepted ∙ refused in
    absurd cc

pub returns : goal.returns
returns c = subst (λ cell. HasPlan cell c.args.plan.now) (sym c.in-Ok.ensures.plan) c.cell_plan.ensures.plan
