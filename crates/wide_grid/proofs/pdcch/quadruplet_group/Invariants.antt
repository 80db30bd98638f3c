use Rattle.std.proofs.Common.{◌≡◌, ℕ, ◌<◌, false, nat_eq, length}
use Rattle.grid_map.specs.Control.{quadruplet_at}
use Rattle.wide_grid.proofs.pdcch.quadruplet_group.Given as goal

abbrev pub invariant-loop-r : goal.invariant-loop-r
invariant-loop-r l =
    (k : ℕ) → k < l.r → nat_eq (quadruplet_at l.cell.identity (length l.groups) k) l.q ≡ false
