use Rattle.std.proofs.Common.{ℕ, ◌*◌, ap, ◌∙◌}
use Rattle.finite.specs.Lists.{values_below}
use Rattle.grid_map.specs.Scrambling.{pcfich_c_init, indicator_bit}
use Rattle.cell_plan.specs.declared.cell.CellPlan.{CellPlan}
use Rattle.cell_grid.specs.Control.{indicator_point}
use Rattle.cell_grid.proofs.BitPoints.{points_are}
use Rattle.cell_grid.proofs.control.indicator_of.Goals as goal

pub returns : goal.returns
unfolding indicator_point
returns c =
    let plan = c.args.cell.now in
    let c_init = c.pcfich_c_init.ensures.value ∙ ap (λ (identity : ℕ). pcfich_c_init identity (2 * c.args.subframe)) c.id.ensures.value in
    let bits = c.indicator_bits-bits.ensures ∙ ap (λ (p : CellPlan). values_below 32 (indicator_bit p.cfi)) c.plan.ensures.plan in
    c.fill_points.ensures ∙ points_are _ (pcfich_c_init plan.identity (2 * c.args.subframe)) 16 _ (indicator_bit plan.cfi) c_init bits
