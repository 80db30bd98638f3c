use Rattle.std.proofs.Common.{◌≡◌, ℕ, ◌+◌, ◌<◌, ◌≤◌, false, get_or, length}
use Rattle.turbo_code.specs.Machine.{next}
use Rattle.turbo_dec.specs.Costs.{backward_least}
use Rattle.turbo_dec.proofs.costs.backward_row.Given as goal

abbrev pub invariant-loop-x : goal.invariant-loop-x
invariant-loop-x l = (length l.earlier ≡ 8) × ((k : ℕ) → k < l.x → get_or l.earlier k 0 ≡ backward_least l.soft.sum l.soft.parity l.row k) ×
    ((k : ℕ) → k < l.x → get_or l.earlier k 0 ≤ get_or l.row (next k false) 0 + 12288)
