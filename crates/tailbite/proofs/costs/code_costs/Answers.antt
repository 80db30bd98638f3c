use Rattle.std.proofs.Common.{◌≡◌, ◌*◌, ◌^◌, ◌≤◌, arith, length-set}
use Rattle.trellis.proofs.Rows.{row_more}
use Rattle.tailbite.specs.Costs.{code_cost}
use Rattle.tailbite.proofs.costs.code_costs.Goals as goal

pub loop-p-preserved : goal.loop-p-preserved
loop-p-preserved c = (
  simp length-set c.loop-p.invariant.0,
  row_more (λ k v. v ≡ code_cost c.args.values.now k) _ _ _ (omega arith) c.loop-p.invariant.1 c.against.ensures.cost,
  row_more (λ k v. v ≤ 3 * 2 ^ 20) _ _ _ (omega arith) c.loop-p.invariant.2 (c.against.ensures.bound 1048576 c.requires),
)
