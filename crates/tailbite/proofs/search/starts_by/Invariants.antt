use Rattle.std.proofs.Common.{◌≡◌, ℕ, ◌<◌, ◌-◌, get_or, length}
use Rattle.tailbite.specs.Keys.{far}
use Rattle.tailbite.proofs.search.starts_by.Given as goal

abbrev pub invariant-loop-x : goal.invariant-loop-x
invariant-loop-x l = (length l.starts ≡ 64) × ((k : ℕ) → k < l.x → get_or l.starts k 0 ≡ far - get_or l.from k 0)
