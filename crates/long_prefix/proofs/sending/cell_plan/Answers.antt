use Rattle.long_prefix.specs.Sent.{IsKnownLong}
use Rattle.long_prefix.proofs.SentPlan.{sendable, none_fails}
use Rattle.long_prefix.proofs.sending.cell_plan.Goals as goal

pub returns-clause-valid : goal.returns-clause-valid
returns-clause-valid c =
    let plan = c.args.plan.now in
    let known : IsKnownLong plan = record { identity = c.value.ensures.valid; spare = plan.mib.spare_range } in
    rw c.plan-cell.ensures (sendable plan known).valid

pub returns-clause-accepted : goal.returns-clause-accepted
returns-clause-accepted c =
    let plan = c.args.plan.now in
    let known : IsKnownLong plan = record { identity = c.value.ensures.valid; spare = plan.mib.spare_range } in
    rw (c.plan-cell.ensures, c.value.ensures.value) (none_fails plan known)
