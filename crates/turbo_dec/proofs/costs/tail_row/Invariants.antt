use Rattle.std.proofs.Common.{◌≡◌, ℕ, ◌<◌, ◌≤◌, get_or, length}
use Rattle.turbo_dec.specs.Costs.{tail_cost}
use Rattle.turbo_dec.proofs.costs.tail_row.Given as goal

abbrev pub invariant-loop-x : goal.invariant-loop-x
invariant-loop-x l = (length l.row ≡ 8) × ((k : ℕ) → k < l.x → get_or l.row k 0 ≡ tail_cost l.tail k) ×
    ((k : ℕ) → k < l.x → get_or l.row k 0 ≤ 24576)
