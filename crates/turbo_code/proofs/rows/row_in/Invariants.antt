use Rattle.std.proofs.Common.{◌≡◌, ℕ, ◌+◌, ◌<◌, get_or}
use Rattle.turbo_code.specs.Table.{row}
use Rattle.turbo_code.proofs.rows.row_in.Given as goal

abbrev pub invariant-loop-row : goal.invariant-loop-row
invariant-loop-row l = (j : ℕ) → j < l.row-index → (get_or l.rows j (row 0 0 0)).k ≡ l.size + 24 → ⊥
