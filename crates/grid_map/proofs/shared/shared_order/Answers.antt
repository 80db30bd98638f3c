use Rattle.grid_map.proofs.Symbols.{shared_in_order}
use Rattle.grid_map.proofs.shared.shared_order.Goals as goal

pub returns : goal.returns
returns c = shared_in_order
