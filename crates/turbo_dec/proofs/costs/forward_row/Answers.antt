use Rattle.std.proofs.Common.{◌≡◌, ◌+◌, ◌≤◌, get_or, arith, length-set}
use Rattle.turbo_code.specs.Machine.{first_from}
use Rattle.turbo_dec.specs.Costs.{forward_least}
use Rattle.trellis.proofs.Rows.{row_more}
use Rattle.turbo_dec.proofs.costs.forward_row.Goals as goal

pub loop-x-preserved : goal.loop-x-preserved
loop-x-preserved c = (
  simp length-set c.loop-x.invariant.0,
  row_more (λ k v. v ≡ forward_least c.args.soft.now.sum c.args.soft.now.parity c.args.row.now k) _ _ _ (omega arith) c.loop-x.invariant.1 c.forward_at.ensures.least,
  row_more (λ k v. v ≤ get_or c.args.row.now (first_from k) 0 + 12288) _ _ _ (omega arith) c.loop-x.invariant.2 c.forward_at.ensures.growth,
)
