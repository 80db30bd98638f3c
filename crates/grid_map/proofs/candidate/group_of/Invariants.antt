use Rattle.std.proofs.Common.{◌≡◌, ℕ, ◌<◌, false, nat_eq}
use Rattle.grid_map.specs.Control.{quadruplet_at}
use Rattle.grid_map.proofs.candidate.group_of.Given as goal

abbrev pub invariant-loop-r : goal.invariant-loop-r
invariant-loop-r l = (k : ℕ) → k < l.r → nat_eq (quadruplet_at l.id l.count k) l.q ≡ false
