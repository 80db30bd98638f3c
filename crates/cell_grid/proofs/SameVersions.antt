-- What system information depends on.
use Rattle.std.proofs.Common.{◌≡◌, ℕ, ◌/◌, ◌%◌, refl, ◌∙◌}
use Rattle.finite.proofs.Lists.{values_below_same}
use Rattle.cell_plan.specs.declared.cell.CellPlan.{CellPlan}
use Rattle.cell_grid.specs.declared.layout.Carried.{Carried}
use Rattle.cell_grid.specs.Control.{control_word, control_point}
use Rattle.cell_grid.specs.Shared.{shared_point}
use Rattle.cell_grid.specs.Rows.{IsCarried}

control_same : (plan : CellPlan) (a b i : ℕ) → a % 8 / 2 ≡ b % 8 / 2 → control_point plan a i ≡ control_point plan b i
unfolding control_point control_word
control_same plan a b i e = rw e refl

shared_same : (plan : CellPlan) (a b i : ℕ) → a % 8 / 2 ≡ b % 8 / 2 → shared_point plan a i ≡ shared_point plan b i
unfolding shared_point
shared_same plan a b i e = rw e refl

pub carried_same : (plan : CellPlan) (a b : ℕ) (carried : Carried) → a % 8 / 2 ≡ b % 8 / 2 → IsCarried plan a carried → IsCarried plan b carried
carried_same plan a b carried e is = record {
  control = is.control ∙ values_below_same 144 (control_point plan a) (control_point plan b) (λ i l. control_same plan a b i e);
  shared = is.shared ∙ values_below_same 612 (shared_point plan a) (shared_point plan b) (λ i l. shared_same plan a b i e);
}
