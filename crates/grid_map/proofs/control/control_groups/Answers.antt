use Rattle.grid_map.proofs.Regions.{groups_in_order}
use Rattle.grid_map.proofs.control.control_groups.Goals as goal

pub returns-clause-order : goal.returns-clause-order
returns-clause-order c = groups_in_order
