use Rattle.std.proofs.Common.{get_or, length, ◌≡◌}
use Rattle.tailbite.proofs.Back.{IsPassAt}
use Rattle.tailbite.proofs.passes.pass.Given as goal

abbrev pub invariant-loop-i : goal.invariant-loop-i
invariant-loop-i l = (length l.rows ≡ length l.fn.rows) × IsPassAt l.values (λ x. get_or l.ends x 0) l.rows l.i

abbrev pub decreases-loop-i : goal.decreases-loop-i
decreases-loop-i l = l.i
