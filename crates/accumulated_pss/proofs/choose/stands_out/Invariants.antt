use Rattle.std.proofs.Common.{◌≡◌, ◌+◌, ◌<◌, ℕ, true}
use Rattle.accumulated_pss.specs.Tests.{stands_out_by}
use Rattle.accumulated_pss.proofs.choose.stands_out.Given as goal

abbrev pub invariant-loop-d : goal.invariant-loop-d
invariant-loop-d l = (k : ℕ) → k < l.d → stands_out_by l.row (137 + l.i) k ≡ true
