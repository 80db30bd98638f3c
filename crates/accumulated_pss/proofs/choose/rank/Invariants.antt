use Rattle.std.proofs.Common.{◌≡◌, ◌≤◌, filter, take, length}
use Rattle.accumulated_pss.specs.Maxima.{precedes}
use Rattle.accumulated_pss.proofs.choose.rank.Given as goal

abbrev pub invariant-loop-k : goal.invariant-loop-k
invariant-loop-k l = record {
  count : l.count ≡ length (filter (λ u. precedes l.row u l.t) (take l.k l.maxima));
  few : l.count ≤ l.k;
}
