use Rattle.uper.proofs.Reading.{reads_bind, fails_bind}
use Rattle.uper.specs.Grammar.{if_present}
use Rattle.sib1.specs.Layout.{q_rx_lev_min_offset}
use Rattle.uper.proofs.Steps.{exit, reads_done}
use Rattle.sib1.proofs.reading.read_q_rx_lev_min_offset.Goals as goal

pub returns-in_err-n : goal.returns-in_err-n
unfolding if_present q_rx_lev_min_offset
returns-in_err-n c = exit _ _ _ _ c.in_err-n.field-0.0 c.from_residual.ensures.1 (rw c.if-present.true (fails_bind _ _ _ _ (fails_bind _ _ _ _ c.in_err-n.ensures.reads)))

pub returns-in_ok-n : goal.returns-in_ok-n
unfolding if_present q_rx_lev_min_offset
returns-in_ok-n c = rw c.if-present.true (reads_bind _ _ _ _ _ _ (reads_bind _ _ _ _ _ _ c.in_ok-n.ensures.reads (reads_done _ _)) (reads_done _ _))

pub returns-else-present : goal.returns-else-present
unfolding if_present q_rx_lev_min_offset
returns-else-present c = rw c.if-present.false (reads_done _ _)
