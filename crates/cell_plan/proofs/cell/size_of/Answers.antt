use Rattle.cell_plan.proofs.BlockRows.{entries_fit, entries_small}
use Rattle.cell_plan.proofs.cell.size_of.Goals as goal

pub returns-then-plan-eq3-clause-row : goal.returns-then-plan-eq3-clause-row
returns-then-plan-eq3-clause-row c = entries_fit c.args.plan.now.mcs c.args.plan.now.column c.size.result c.size.ensures

pub returns-then-plan-eq3-clause-room : goal.returns-then-plan-eq3-clause-room
returns-then-plan-eq3-clause-room c = entries_small c.size.result (entries_fit c.args.plan.now.mcs c.args.plan.now.column c.size.result c.size.ensures)
