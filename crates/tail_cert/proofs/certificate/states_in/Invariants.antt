use Rattle.std.proofs.Common.{◌≡◌, ◌≤◌, cond}
use Rattle.finite.specs.Sums.{total_below}
use Rattle.tail_cert.specs.Stored.{has_table}
use Rattle.tail_cert.proofs.certificate.states_in.Given as goal

abbrev pub invariant-loop-s : goal.invariant-loop-s
invariant-loop-s l = (l.count ≡ total_below l.s (λ s. cond (has_table l.set s) 1 0)) × (l.count ≤ l.s)
