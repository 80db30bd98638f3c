use Rattle.std.proofs.Common.{◌≡◌, ◌*ℤ◌}
use Rattle.finite.specs.Sums.{sum_below}
use Rattle.accumulated_sss.specs.Steps.{number_at}
use Rattle.accumulated_sss.proofs.matching.signed_sum.Given as goal

abbrev pub invariant-loop-n : goal.invariant-loop-n
invariant-loop-n l = l.sum ≡ sum_below l.n (λ k. number_at l.sequence k *ℤ number_at l.sums k)
