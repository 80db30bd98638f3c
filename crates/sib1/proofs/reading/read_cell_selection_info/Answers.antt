use Rattle.std.proofs.Common.{w8, rules, FitsSigned}
use Rattle.std.proofs.lemmas.Int.{to_z-of_z}
use Rattle.uper.proofs.Reading.{reads_bind, fails_bind}
use Rattle.sib1.specs.Layout.{cell_selection_info}
use Rattle.uper.proofs.Steps.{exit, reads_done}
use Rattle.sib1.proofs.reading.read_cell_selection_info.Goals as goal

pub returns-in_err-has_offset : goal.returns-in_err-has_offset
unfolding cell_selection_info
returns-in_err-has_offset c = exit _ _ _ _ c.in_err-has_offset.field-0.0 c.from_residual.ensures.1 (fails_bind _ _ _ _ c.in_err-has_offset.ensures)

pub returns-in_err-level : goal.returns-in_err-level
unfolding cell_selection_info
returns-in_err-level c = exit _ _ _ _ c.in_err-level.field-0.0 c.from_residual-in_err-level.ensures.1 (reads_bind _ _ _ _ _ _ c.in_ok-has_offset.ensures (fails_bind _ _ _ _ c.in_err-level.ensures.reads))

pub returns-in_err-q_offset : goal.returns-in_err-q_offset
unfolding cell_selection_info
returns-in_err-q_offset c = exit _ _ _ _ c.in_err-q_offset.field-0.0 c.from_residual-in_err-q_offset.ensures.1 (reads_bind _ _ _ _ _ _ c.in_ok-has_offset.ensures (reads_bind _ _ _ _ _ _ c.in_ok-level.ensures.reads (fails_bind _ _ _ _ c.in_err-q_offset.ensures)))

pub returns : goal.returns
unfolding cell_selection_info
returns c =
    let fits : FitsSigned w8 c.q_rx_lev_min_of.result = search rules in
    rw (to_z-of_z w8 c.q_rx_lev_min_of.result fits, c.q_rx_lev_min_of.ensures) (reads_bind _ _ _ _ _ _ c.in_ok-has_offset.ensures (reads_bind _ _ _ _ _ _ c.in_ok-level.ensures.reads (reads_bind _ _ _ _ _ _ c.in_ok-q_offset.ensures (reads_done _ _))))
