use Rattle.accumulated_pss.proofs.Rows.{rows_empty}
use Rattle.accumulated_pss.proofs.sums.Accumulated.new.Goals as goal

pub returns : goal.returns
returns c = rows_empty _ _ _ c.in_ok-new.ensures c.in_ok-new-2.ensures c.in_ok-new-3.ensures
