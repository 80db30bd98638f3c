use Rattle.std.proofs.Common.{◌≡◌, ℕ, ◌+◌, ◌<◌, ◌≤◌, get_or, length}
use Rattle.turbo_code.specs.Machine.{first_from}
use Rattle.turbo_dec.specs.Costs.{forward_least}
use Rattle.turbo_dec.proofs.costs.forward_row.Given as goal

abbrev pub invariant-loop-x : goal.invariant-loop-x
invariant-loop-x l = (length l.later ≡ 8) × ((k : ℕ) → k < l.x → get_or l.later k 0 ≡ forward_least l.soft.sum l.soft.parity l.row k) ×
    ((k : ℕ) → k < l.x → get_or l.later k 0 ≤ get_or l.row (first_from k) 0 + 12288)
