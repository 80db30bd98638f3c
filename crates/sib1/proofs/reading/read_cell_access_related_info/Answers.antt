use Rattle.uper.proofs.Reading.{reads_bind, fails_bind}
use Rattle.sib1.specs.Layout.{cell_access_related_info}
use Rattle.uper.proofs.Steps.{exit, reads_done}
use Rattle.sib1.proofs.reading.read_cell_access_related_info.Goals as goal

pub returns-in_err-has_csg_identity : goal.returns-in_err-has_csg_identity
unfolding cell_access_related_info
returns-in_err-has_csg_identity c = exit _ _ _ _ c.in_err-has_csg_identity.field-0.0 c.from_residual.ensures.1 (fails_bind _ _ _ _ c.in_err-has_csg_identity.ensures)

pub returns-in_err-plmns : goal.returns-in_err-plmns
unfolding cell_access_related_info
returns-in_err-plmns c = exit _ _ _ _ c.in_err-plmns.field-0.0 c.from_residual-in_err-plmns.ensures.1 (reads_bind _ _ _ _ _ _ c.in_ok-has_csg_identity.ensures (fails_bind _ _ _ _ c.in_err-plmns.ensures))

pub returns-in_err-tac : goal.returns-in_err-tac
unfolding cell_access_related_info
returns-in_err-tac c = exit _ _ _ _ c.in_err-tac.field-0.0 c.from_residual-in_err-tac.ensures.1 (reads_bind _ _ _ _ _ _ c.in_ok-has_csg_identity.ensures (reads_bind _ _ _ _ _ _ c.in_ok-plmns.ensures (fails_bind _ _ _ _ c.in_err-tac.ensures.reads)))

pub returns-in_err-cell : goal.returns-in_err-cell
unfolding cell_access_related_info
returns-in_err-cell c = exit _ _ _ _ c.in_err-cell.field-0.0 c.from_residual-in_err-cell.ensures.1 (reads_bind _ _ _ _ _ _ c.in_ok-has_csg_identity.ensures (reads_bind _ _ _ _ _ _ c.in_ok-plmns.ensures (reads_bind _ _ _ _ _ _ c.in_ok-tac.ensures.reads (fails_bind _ _ _ _ c.in_err-cell.ensures.reads))))

pub returns-in_err-not_barred : goal.returns-in_err-not_barred
unfolding cell_access_related_info
returns-in_err-not_barred c = exit _ _ _ _ c.in_err-not_barred.field-0.0 c.from_residual-in_err-not_barred.ensures.1 (reads_bind _ _ _ _ _ _ c.in_ok-has_csg_identity.ensures (reads_bind _ _ _ _ _ _ c.in_ok-plmns.ensures (reads_bind _ _ _ _ _ _ c.in_ok-tac.ensures.reads (reads_bind _ _ _ _ _ _ c.in_ok-cell.ensures.reads (fails_bind _ _ _ _ c.in_err-not_barred.ensures)))))

pub returns-in_err-not_allowed : goal.returns-in_err-not_allowed
unfolding cell_access_related_info
returns-in_err-not_allowed c = exit _ _ _ _ c.in_err-not_allowed.field-0.0 c.from_residual-in_err-not_allowed.ensures.1 (reads_bind _ _ _ _ _ _ c.in_ok-has_csg_identity.ensures (reads_bind _ _ _ _ _ _ c.in_ok-plmns.ensures (reads_bind _ _ _ _ _ _ c.in_ok-tac.ensures.reads (reads_bind _ _ _ _ _ _ c.in_ok-cell.ensures.reads (reads_bind _ _ _ _ _ _ c.in_ok-not_barred.ensures (fails_bind _ _ _ _ c.in_err-not_allowed.ensures))))))

pub returns-in_err-csg : goal.returns-in_err-csg
unfolding cell_access_related_info
returns-in_err-csg c = exit _ _ _ _ c.in_err-csg.field-0.0 c.from_residual-in_err-csg.ensures.1 (reads_bind _ _ _ _ _ _ c.in_ok-has_csg_identity.ensures (reads_bind _ _ _ _ _ _ c.in_ok-plmns.ensures (reads_bind _ _ _ _ _ _ c.in_ok-tac.ensures.reads (reads_bind _ _ _ _ _ _ c.in_ok-cell.ensures.reads (reads_bind _ _ _ _ _ _ c.in_ok-not_barred.ensures (reads_bind _ _ _ _ _ _ c.in_ok-not_allowed.ensures (fails_bind _ _ _ _ c.in_err-csg.ensures)))))))

pub returns-in_err-csg_identity : goal.returns-in_err-csg_identity
unfolding cell_access_related_info
returns-in_err-csg_identity c = exit _ _ _ _ c.in_err-csg_identity.field-0.0 c.from_residual-in_err-csg_identity.ensures.1 (reads_bind _ _ _ _ _ _ c.in_ok-has_csg_identity.ensures (reads_bind _ _ _ _ _ _ c.in_ok-plmns.ensures (reads_bind _ _ _ _ _ _ c.in_ok-tac.ensures.reads (reads_bind _ _ _ _ _ _ c.in_ok-cell.ensures.reads (reads_bind _ _ _ _ _ _ c.in_ok-not_barred.ensures (reads_bind _ _ _ _ _ _ c.in_ok-not_allowed.ensures (reads_bind _ _ _ _ _ _ c.in_ok-csg.ensures (fails_bind _ _ _ _ c.in_err-csg_identity.ensures))))))))

pub returns : goal.returns
unfolding cell_access_related_info
returns c = reads_bind _ _ _ _ _ _ c.in_ok-has_csg_identity.ensures (reads_bind _ _ _ _ _ _ c.in_ok-plmns.ensures (reads_bind _ _ _ _ _ _ c.in_ok-tac.ensures.reads (reads_bind _ _ _ _ _ _ c.in_ok-cell.ensures.reads (reads_bind _ _ _ _ _ _ c.in_ok-not_barred.ensures (reads_bind _ _ _ _ _ _ c.in_ok-not_allowed.ensures (reads_bind _ _ _ _ _ _ c.in_ok-csg.ensures (reads_bind _ _ _ _ _ _ c.in_ok-csg_identity.ensures (reads_done _ _))))))))
