use Rattle.std.proofs.Common.{ℕ, ◌<◌}
use Rattle.tail_cert.specs.Certificate.{StartHolds}
use Rattle.tail_cert.specs.Stored.{shown_at}
use Rattle.tail_cert.proofs.checker.starts_hold.Given as goal

abbrev pub invariant-loop-s : goal.invariant-loop-s
invariant-loop-s l = (k : ℕ) → k < l.s → StartHolds l.costs.values.now l.cost l.general k (shown_at l.set l.tables k)
