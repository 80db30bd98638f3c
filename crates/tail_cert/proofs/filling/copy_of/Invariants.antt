use Rattle.std.proofs.Common.{◌≡◌, ℕ, ◌<◌, get_or, length, []}
use Rattle.tail_cert.proofs.filling.copy_of.Given as goal

abbrev pub invariant-loop-k : goal.invariant-loop-k
invariant-loop-k l = (length l.copy ≡ 40) × ((j : ℕ) → j < l.k → get_or l.copy j [] ≡ get_or l.values j []) ×
    ((j : ℕ) → j < l.k → length (get_or l.copy j []) ≡ 3)
