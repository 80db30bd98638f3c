use Rattle.grid_map.proofs.Points.{pbch_in_order, index_fits, carries_at_index}
use Rattle.grid_map.proofs.Indexed.{pbch_indexed}
use Rattle.grid_map.proofs.broadcast.pbch_order.Goals as goal

pub returns-clause-order : goal.returns-clause-order
returns-clause-order c = pbch_in_order

pub returns-clause-indexed : goal.returns-clause-indexed
returns-clause-indexed c = pbch_indexed

pub returns-clause-carries : goal.returns-clause-carries
returns-clause-carries c identity p = (index_fits identity p, carries_at_index identity p)
