use Rattle.std.proofs.Common.{◌≡◌, Some, subst}
use Rattle.cell_plan.specs.declared.cell.CellPlan.{CellPlan}
use Rattle.cell_plan.specs.Plan.{plan_refusal}
use Rattle.explain.specs.Grant.{IsGrantOf}
use Rattle.clean_air.proofs.Plans.{valid_fields, refused_plan}
use Rattle.clean_air.proofs.planning.decoded_plan.Goals as goal

pub new-requires : goal.new-requires
new-requires c = rw c.plan_by.ensures (valid_fields c.args.recording.now c.args.entry.now c.in-Ok.sib1 c.requires.listed c.in-Ok.is)

pub returns-in-Err : goal.returns-in-Err
returns-in-Err c =
    let granted = subst (IsGrantOf c.args.recording.now c.args.entry.now) c.in-Some.is c.requires.granted in
    refused_plan c.args.recording.now c.args.entry.now c.in-Some.decoded.0 c.in-Some.decoded.1 c.in-Ok.sib1 granted c.in-Ok.is c.in-Err.field-0
    (subst (λ (plan : CellPlan). plan_refusal plan ≡ Some c.in-Err.field-0) c.plan_by.ensures c.in-Err.ensures.refusal)
