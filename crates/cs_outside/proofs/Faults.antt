-- Laws for increasing counts.
use Rattle.std.proofs.Common.{ℕ, ◌<◌, ◌≤◌, ◌⊎◌, ◌↔◌, arith}
use Rattle.cs_outside.specs.Counts.{last_count, Rose}

-- `Rose` in other words: an increase, or a saturated count
pub rose_means : (before now : ℕ) → Rose before now ↔ ((before < now) ⊎ (last_count ≤ now))
rose_means before now = (grind arith, grind arith)

-- an increase in the later part of a run is one over the run
pub rose_later : (before between now : ℕ) → before ≤ between → Rose between now → Rose before now
rose_later before between now later rose = omega arith

-- an increase in the earlier part of a run is one over the run
pub rose_earlier : (before between now : ℕ) → Rose before between → between ≤ now → Rose before now
rose_earlier before between now rose later = omega arith

-- an unsaturated count that did not change has not increased
pub not_rose : (count : ℕ) → count < last_count → Rose count count → ⊥
not_rose count below rose = absurd (omega arith)
