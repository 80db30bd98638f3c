use Rattle.std.proofs.Common.{◌≡◌, ◌*◌, ◌≤◌, nat_abs}
use Rattle.finite.specs.Sums.{total_below}
use Rattle.finite.specs.Tables.{sum_at}
use Rattle.pbch.proofs.by_phase.total_of.Given as goal

abbrev pub invariant-loop-place : goal.invariant-loop-place
invariant-loop-place l = record {
  so_far : l.total ≡ total_below l.place-index (λ k. total_below 3 (λ t. nat_abs (sum_at l.values k t)));
  small : l.total ≤ l.place-index * 3145728;
}
