use Rattle.std.proofs.Common.{pos}
use Rattle.turbo_code.proofs.Orders.{orders_undo}
use Rattle.turbo_dec.proofs.laws.orders_undo_each_other.Goals as goal

pub returns : goal.returns
returns c = orders_undo (pos 0)
