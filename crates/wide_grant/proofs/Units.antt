-- The unit of interleaving at each bandwidth.
use Rattle.std.proofs.Common.{ℕ, ◌≤◌, inl, inr, false, subst, sym, arith}
use Rattle.wide_cell.specs.Cell.{IsBlockCount}
use Rattle.wide_grant.specs.Distributed.{virtual_blocks}

abbrev Bounded : ℕ → Type 0
Bounded blocks = (6 ≤ virtual_blocks blocks false) × (virtual_blocks blocks false ≤ 100)

pub unit_bounds : (blocks : ℕ) → IsBlockCount blocks → (6 ≤ virtual_blocks blocks false) × (virtual_blocks blocks false ≤ 100)
unit_bounds blocks (inl e) = subst Bounded (sym e) (omega arith, omega arith)
unit_bounds blocks (inr (inl e)) = subst Bounded (sym e) (omega arith, omega arith)
unit_bounds blocks (inr (inr (inl e))) = subst Bounded (sym e) (omega arith, omega arith)
unit_bounds blocks (inr (inr (inr (inl e)))) = subst Bounded (sym e) (omega arith, omega arith)
unit_bounds blocks (inr (inr (inr (inr (inl e))))) = subst Bounded (sym e) (omega arith, omega arith)
unit_bounds blocks (inr (inr (inr (inr (inr e))))) = subst Bounded (sym e) (omega arith, omega arith)
