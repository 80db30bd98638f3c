use Rattle.std.proofs.Common.{◌≡◌, ◌*◌, ◌≤◌}
use Rattle.finite.specs.Sums.{total_below}
use Rattle.conv_code.specs.Cost.{cost_at}
use Rattle.tail_cert.proofs.checker.cost_of.Given as goal

abbrev pub invariant-loop-k : goal.invariant-loop-k
invariant-loop-k l = (l.cost ≡ total_below l.k (cost_at l.values l.word)) × (l.cost ≤ l.k * 3145728)
