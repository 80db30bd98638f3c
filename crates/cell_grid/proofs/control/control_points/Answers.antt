use Rattle.std.proofs.Common.{ℕ, ap, ◌∙◌}
use Rattle.grid_map.specs.Scrambling.{pdcch_c_init}
use Rattle.cell_grid.specs.Block.{coded_bit}
use Rattle.cell_grid.specs.Control.{control_word, control_point}
use Rattle.cell_grid.proofs.BitPoints.{points_are}
use Rattle.cell_grid.proofs.control.control_points.Goals as goal

pub returns : goal.returns
unfolding control_point
returns c =
    let plan = c.args.cell.now in
    let c_init = c.pdcch_c_init.ensures.value ∙ ap (λ (identity : ℕ). pdcch_c_init identity 10) c.id.ensures.value in
    c.fill_points.ensures ∙ points_are _ (pdcch_c_init plan.identity 10) 144 _ (coded_bit (control_word plan c.args.sfn)) c_init c.control_bits.ensures
