use Rattle.std.proofs.Common.{get_or}
use Rattle.trellis.specs.Least.{IsLeastVia}
use Rattle.turbo_code.specs.Machine.{next}
use Rattle.turbo_dec.specs.Costs.{edge_cost}
use Rattle.turbo_dec.proofs.costs.least_through.Given as goal

abbrev pub invariant-loop-x : goal.invariant-loop-x
invariant-loop-x l = IsLeastVia next (edge_cost l.soft.sum l.soft.parity) (λ x. get_or l.before x 0) (λ x. get_or l.after x 0) l.b l.x l.least
