use Rattle.std.proofs.Common.{◌≡◌, ◌<◌, ◌≤◌, ℕ, true}
use Rattle.tail_cert.specs.Stored.{has_table}
use Rattle.tail_cert.proofs.certificate.end_of.Given as goal

abbrev pub invariant-loop-s : goal.invariant-loop-s
invariant-loop-s l = (l.end ≤ l.s) × ((k : ℕ) → k < l.s → has_table l.set k ≡ true → k < l.end)
