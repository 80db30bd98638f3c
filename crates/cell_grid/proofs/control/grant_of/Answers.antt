use Rattle.std.proofs.Common.{◌≡◌, arith}
use Rattle.cell_plan.proofs.BlockRows.{mcs_small}
use Rattle.cell_grid.proofs.control.grant_of.Goals as goal

pub returns-clause-valid : goal.returns-clause-valid
returns-clause-valid c =
    let plan = c.args.cell.now in
    let s = c.plan-plan.ensures.sendable in
    let entry = c.size.ensures.entry in
    let is : c.plan-plan.result.now ≡ plan = c.plan-plan.ensures.plan in
    let bound = c.version_of.ensures.bound in
    rw is (record {
      blocks = s.assignment;
      mcs_valid = mcs_small plan.mcs plan.column c.size.result entry;
      rv_valid = omega (arith, bound);
      column_valid = s.column;
      size_is = entry;
    })
