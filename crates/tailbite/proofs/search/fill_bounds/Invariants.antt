use Rattle.std.proofs.Common.{◌≡◌, ℕ, ◌<◌, ◌-◌, ◌*◌, get_or, length}
use Rattle.tailbite.specs.Keys.{scale}
use Rattle.tailbite.proofs.search.fill_bounds.Given as goal

abbrev pub invariant-loop-x : goal.invariant-loop-x
invariant-loop-x l = (length l.bounds ≡ 64) × ((k : ℕ) → k < l.x → get_or l.bounds k 0 ≡ (get_or l.to k 0 - get_or l.starts k 0) * scale)
