use Rattle.std.proofs.Common.{ℕ, ◌<◌}
use Rattle.tail_cert.specs.Form.{BreaksUpTo}
use Rattle.tail_cert.proofs.reading.first_break.Given as goal

abbrev pub invariant-loop-p : goal.invariant-loop-p
invariant-loop-p l = (q : ℕ) → q < l.p → BreaksUpTo l.count l.bytes q → ⊥
