use Rattle.std.proofs.Common.{arith}
use Rattle.clean_air.proofs.Plans.{faithful_plan, sent_plan}
use Rattle.clean_air.proofs.planning.plan_granted.Goals as goal

pub returns-clause-faithful : goal.returns-clause-faithful
returns-clause-faithful c =
    let long = c.if-prove.false in
    let count = c.len-count.ensures.value in
    faithful_plan c.args.recording.now c.args.entry.now c.decoded_plan.result (omega (arith, long, count)) c.requires.listed c.decoded_plan.ensures

pub returns-clause-sent : goal.returns-clause-sent
returns-clause-sent c =
    let long = c.if-prove.false in
    let count = c.len-count.ensures.value in
    sent_plan c.args.recording.now c.args.entry.now c.decoded_plan.result (omega (arith, long, count))
    (faithful_plan c.args.recording.now c.args.entry.now c.decoded_plan.result (omega (arith, long, count)) c.requires.listed c.decoded_plan.ensures)
