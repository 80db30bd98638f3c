use Rattle.uper.proofs.Reading.{reads_bind, fails_bind}
use Rattle.sib1.specs.Layout.{plmn_identity_info}
use Rattle.uper.proofs.Steps.{exit, reads_done}
use Rattle.sib1.proofs.read_plmns.read_plmn_identity_info.Goals as goal

pub returns-in_err-has_mcc : goal.returns-in_err-has_mcc
unfolding plmn_identity_info
returns-in_err-has_mcc c = exit _ _ _ _ c.in_err-has_mcc.field-0.0 c.from_residual.ensures.1 (fails_bind _ _ _ _ c.in_err-has_mcc.ensures.reads)

pub returns-in_err-mcc : goal.returns-in_err-mcc
unfolding plmn_identity_info
returns-in_err-mcc c = exit _ _ _ _ c.in_err-mcc.field-0.0 c.from_residual-in_err-mcc.ensures.1 (reads_bind _ _ _ _ _ _ c.in_ok-has_mcc.ensures.reads (fails_bind _ _ _ _ c.in_err-mcc.ensures))

pub returns-in_err-mnc : goal.returns-in_err-mnc
unfolding plmn_identity_info
returns-in_err-mnc c = exit _ _ _ _ c.in_err-mnc.field-0.0 c.from_residual-in_err-mnc.ensures.1 (reads_bind _ _ _ _ _ _ c.in_ok-has_mcc.ensures.reads (reads_bind _ _ _ _ _ _ c.in_ok-mcc.ensures (fails_bind _ _ _ _ c.in_err-mnc.ensures)))

pub returns-in_err-not_reserved : goal.returns-in_err-not_reserved
unfolding plmn_identity_info
returns-in_err-not_reserved c = exit _ _ _ _ c.in_err-not_reserved.field-0.0 c.from_residual-in_err-not_reserved.ensures.1 (reads_bind _ _ _ _ _ _ c.in_ok-has_mcc.ensures.reads (reads_bind _ _ _ _ _ _ c.in_ok-mcc.ensures (reads_bind _ _ _ _ _ _ c.in_ok-mnc.ensures (fails_bind _ _ _ _ c.in_err-not_reserved.ensures))))

pub returns : goal.returns
unfolding plmn_identity_info
returns c = reads_bind _ _ _ _ _ _ c.in_ok-has_mcc.ensures.reads (reads_bind _ _ _ _ _ _ c.in_ok-mcc.ensures (reads_bind _ _ _ _ _ _ c.in_ok-mnc.ensures (reads_bind _ _ _ _ _ _ c.in_ok-not_reserved.ensures (reads_done _ _))))
