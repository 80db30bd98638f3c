use Rattle.std.proofs.Common.{arith}
use Rattle.cell_grid.proofs.SameVersions.{carried_same}
use Rattle.cell_grid.proofs.layout.Versions.of_frame.Goals as goal

pub returns-in-0 : goal.returns-in-0
returns-in-0 c plan are = carried_same plan 0 c.args.sfn c.args.self.now.first (let e = c.in-0.is in omega (arith, e)) are.first

pub returns-in-1 : goal.returns-in-1
returns-in-1 c plan are = carried_same plan 2 c.args.sfn c.args.self.now.second (let e = c.in-1.is in omega (arith, e)) are.second

pub returns-in-2 : goal.returns-in-2
returns-in-2 c plan are = carried_same plan 4 c.args.sfn c.args.self.now.third (let e = c.in-2.is in omega (arith, e)) are.third

pub returns-in_default : goal.returns-in_default
returns-in_default c plan are = carried_same plan 6 c.args.sfn c.args.self.now.fourth (omega arith) are.fourth
