use Rattle.std.proofs.Common.{◌≡◌, ◌*◌, ◌≤◌}
use Rattle.finite.specs.Sums.{total_below}
use Rattle.pss_search.specs.Correlation.{energy_term}
use Rattle.accumulated_sss.proofs.votes.energy_at.Given as goal

abbrev pub invariant-loop-n : goal.invariant-loop-n
invariant-loop-n l = record {
  so_far : l.sum ≡ total_below l.n (energy_term l.samples l.at);
  small : l.sum ≤ l.n * 2147483648;
}
