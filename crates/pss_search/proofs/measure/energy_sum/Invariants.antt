use Rattle.std.proofs.Common.{◌≡◌, ℕ, ◌+◌, ◌*◌, ◌<◌, ◌≤◌}
use Rattle.finite.specs.Sums.{total_below}
use Rattle.cs_num.specs.Complex.{square, sample_at}
use Rattle.pss_search.specs.Correlation.{energy_term}
use Rattle.pss_search.proofs.measure.energy_sum.Given as goal

abbrev pub invariant-loop-n : goal.invariant-loop-n
invariant-loop-n l = record {
  so_far : l.sum ≡ total_below l.n (energy_term l.samples l.t);
  small : l.sum ≤ l.n * 2147483648;
  each : (k : ℕ) → k < l.n → square (sample_at l.samples (l.t + k)) ≤ 2147483648;
}
