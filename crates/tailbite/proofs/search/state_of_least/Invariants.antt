use Rattle.std.proofs.Common.{ℕ, ◌<◌, ◌≤◌, get_or}
use Rattle.tailbite.proofs.search.state_of_least.Given as goal

abbrev pub invariant-loop-x : goal.invariant-loop-x
invariant-loop-x l = (l.least < l.x) × ((k : ℕ) → k < l.x → get_or l.bounds l.least 0 ≤ get_or l.bounds k 0)
