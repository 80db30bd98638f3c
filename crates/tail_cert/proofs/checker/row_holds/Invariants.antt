use Rattle.std.proofs.Common.{ℕ, ◌*◌, ◌<◌, get_or}
use Rattle.tail_cert.specs.Steps.{BothHold}
use Rattle.tail_cert.proofs.checker.row_holds.Given as goal

abbrev pub invariant-loop-h : goal.invariant-loop-h
invariant-loop-h l = (k : ℕ) → k < 2 * l.h → BothHold l.costs (get_or l.from k 0) l.to k
