-- Each value from 0 to 20 stands for an assignment.
use Rattle.std.proofs.Common.{◌≡◌, ℕ, ◌+◌, ◌-◌, ◌/◌, ◌%◌, ◌≤◌, ◌<◌, ◌⊎◌, inl, inr, arith}
use Rattle.std.proofs.lemmas.Bool.{cases_lt}
use Rattle.std.proofs.lemmas.Bool.Decides.{nat_tests}
use Rattle.lte_types.specs.Assignment.{AreBlocks}
use Rattle.dci.specs.Assignment.{riv_of}

pub blocks_with : (riv : ℕ) → riv ≤ 20 → (start : ℕ) × ((blocks : ℕ) × AreBlocks start blocks × (riv_of start blocks ≡ riv))
blocks_with riv l = cases (cases_lt 6 (riv % 6 + (riv / 6 + 1)))
  where
    cases : (6 < riv % 6 + (riv / 6 + 1)) ⊎ (riv % 6 + (riv / 6 + 1) ≤ 6) → (start : ℕ) × ((blocks : ℕ) × AreBlocks start blocks × (riv_of start blocks ≡ riv))
    cases (inl far) = (5 - riv % 6, (8 - (riv / 6 + 1), record { some = omega (arith, l, far); inside = omega (arith, l, far) }, grind (arith, nat_tests, far)))
    cases (inr near) = (riv % 6, (riv / 6 + 1, record { some = omega arith; inside = near }, grind (arith, nat_tests, near)))
