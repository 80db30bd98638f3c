use Rattle.std.proofs.Common.{ℕ, ap, ◌∙◌}
use Rattle.grid_map.specs.Scrambling.{pdsch_c_init}
use Rattle.cell_grid.specs.Shared.{shared_bit, shared_point}
use Rattle.cell_grid.proofs.BitPoints.{points_are}
use Rattle.cell_grid.proofs.shared.shared_points.Goals as goal

pub returns : goal.returns
unfolding shared_point
returns c =
    let plan = c.args.cell.now in
    let c_init = c.pdsch_c_init-c_init.ensures.value ∙ ap (λ (identity : ℕ). pdsch_c_init identity 10 65535) c.id.ensures.value in
    c.fill_points.ensures ∙ points_are _ (pdsch_c_init plan.identity 10 65535) 612 _ (shared_bit plan c.args.sfn) c_init c.shared_bits.ensures
