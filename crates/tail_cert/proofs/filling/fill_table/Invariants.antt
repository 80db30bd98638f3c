use Rattle.std.proofs.Common.{◌≡◌, ◌+◌, ◌*◌, ◌^◌, ◌≤◌, ℕ, ◌<◌, get_or, length}
use Rattle.tail_cert.specs.Forward.{IsStepRow, HasLeastRows}
use Rattle.tail_cert.proofs.filling.fill_table.Given as goal

abbrev pub invariant-loop-k : goal.invariant-loop-k
invariant-loop-k l = (length l.table ≡ 40) × ((y : ℕ) → y < 64 → get_or l.row y 0 ≤ 2 ^ 30 + l.k * (3 * 2 ^ 20)) ×
    IsStepRow l.costs.values.now l.start l.k l.row × HasLeastRows l.costs.values.now l.start l.table l.k
