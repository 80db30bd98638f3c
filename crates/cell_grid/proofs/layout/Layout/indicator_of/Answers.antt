use Rattle.std.proofs.Common.{ℕ, ◌≡◌, ◌<◌, List, get_or, ap, ◌∙◌}
use Rattle.finite.specs.Lists.{values_below}
use Rattle.finite.proofs.Lists.{values_below_at}
use Rattle.cs_num.specs.declared.Cpx.{Cpx}
use Rattle.cell_plan.specs.declared.cell.CellPlan.{CellPlan}
use Rattle.cell_grid.specs.Control.{indicator_point}
use Rattle.cell_grid.proofs.layout.Layout.indicator_of.Goals as goal

row_of : (plan : CellPlan) (rows : List (List Cpx)) (subframe : ℕ) (points other : List Cpx) → rows ≡ values_below 10 (λ s. values_below 16 (indicator_point plan s)) → subframe < 10
    → points ≡ get_or rows subframe other → points ≡ values_below 16 (indicator_point plan subframe)
row_of plan rows subframe points other are inside is =
    is ∙ ap (λ list. get_or list subframe other) are ∙ values_below_at (λ s. values_below 16 (indicator_point plan s)) 10 subframe other inside

pub returns-clause-points : goal.returns-clause-points
returns-clause-points c port plan layout = row_of plan c.args.self.now.indicators c.args.subframe c.slice.result.now _ layout.indicators c.requires c.slice.ensures.points
