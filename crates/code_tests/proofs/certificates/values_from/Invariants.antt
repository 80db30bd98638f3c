use Rattle.std.proofs.Common.{◌≡◌, ℕ, ◌<◌, ◌≤◌, get_or, length, []}
use Rattle.finite.specs.Sizes.{AllWithin}
use Rattle.code_tests.proofs.certificates.values_from.Given as goal

abbrev pub invariant-loop-k : goal.invariant-loop-k
invariant-loop-k l = (length l.values ≡ 40) × ((j : ℕ) → j < l.k → AllWithin 2032 (get_or l.values j []))
