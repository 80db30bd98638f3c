-- Parts of a plan, as values of types with their ranges. (own)
use Rattle.std.specs.Prelude.{◌≡◌, ℕ, Some}
use Rattle.lte_types.specs.Assignment.{Assigned}
use Rattle.dci.specs.Sizes.{size_of}
use Rattle.cell_plan.specs.declared.cell.CellPlan.{CellPlan}

-- the resource assignment of a plan: its control format indicator and its resource blocks
abbrev pub assignment_of : CellPlan → Assigned
assignment_of plan = record { cfi = plan.cfi; start = plan.start; blocks = plan.blocks }

-- `identity`, `assignment` and `size` (the transport block size) are the plan's
pub record ArePartsOf (plan : CellPlan) (identity : ℕ) (assignment : Assigned) (size : ℕ) : Type 0 where
  pub identity_is : identity ≡ plan.identity
  pub assignment_is : assignment ≡ assignment_of plan
  pub size_is : size_of plan.mcs plan.column ≡ Some size
