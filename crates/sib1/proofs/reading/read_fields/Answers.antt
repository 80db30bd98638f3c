use Rattle.std.proofs.Common.{w8, rules, FitsSigned}
use Rattle.std.proofs.lemmas.Int.{to_z-of_z}
use Rattle.uper.proofs.Reading.{reads_bind, fails_bind}
use Rattle.sib1.specs.Layout.{sib1}
use Rattle.uper.proofs.Steps.{exit}
use Rattle.sib1.proofs.Whole.{sib1_read}
use Rattle.sib1.proofs.reading.read_fields.Goals as goal

pub returns-in_err-number : goal.returns-in_err-number
unfolding sib1
returns-in_err-number c = exit _ _ _ _ c.in_err-number.field-0.0 c.from_residual.ensures.1 (fails_bind _ _ _ _ c.in_err-number.ensures.reads)

pub returns-in_err-number-2 : goal.returns-in_err-number-2
unfolding sib1
returns-in_err-number-2 c = exit _ _ _ _ c.in_err-number-2.field-0.0 c.from_residual-in_err-number-2.ensures.1 (reads_bind _ _ _ _ _ _ c.in_ok-number.ensures.reads (fails_bind _ _ _ _ c.in_err-number-2.ensures.reads))

pub returns-in_err-has_p_max : goal.returns-in_err-has_p_max
unfolding sib1
returns-in_err-has_p_max c = exit _ _ _ _ c.in_err-has_p_max.field-0.0 c.from_residual-in_err-has_p_max.ensures.1 (reads_bind _ _ _ _ _ _ c.in_ok-number.ensures.reads (reads_bind _ _ _ _ _ _ c.in_ok-number-2.ensures.reads (fails_bind _ _ _ _ c.in_err-has_p_max.ensures)))

pub returns-in_err-has_tdd : goal.returns-in_err-has_tdd
unfolding sib1
returns-in_err-has_tdd c = exit _ _ _ _ c.in_err-has_tdd.field-0.0 c.from_residual-in_err-has_tdd.ensures.1 (reads_bind _ _ _ _ _ _ c.in_ok-number.ensures.reads (reads_bind _ _ _ _ _ _ c.in_ok-number-2.ensures.reads (reads_bind _ _ _ _ _ _ c.in_ok-has_p_max.ensures (fails_bind _ _ _ _ c.in_err-has_tdd.ensures))))

pub returns-in_err-extended : goal.returns-in_err-extended
unfolding sib1
returns-in_err-extended c = exit _ _ _ _ c.in_err-extended.field-0.0 c.from_residual-in_err-extended.ensures.1 (reads_bind _ _ _ _ _ _ c.in_ok-number.ensures.reads (reads_bind _ _ _ _ _ _ c.in_ok-number-2.ensures.reads (reads_bind _ _ _ _ _ _ c.in_ok-has_p_max.ensures (reads_bind _ _ _ _ _ _ c.in_ok-has_tdd.ensures (fails_bind _ _ _ _ c.in_err-extended.ensures)))))

pub returns-in_err-access : goal.returns-in_err-access
unfolding sib1
returns-in_err-access c = exit _ _ _ _ c.in_err-access.field-0.0 c.from_residual-in_err-access.ensures.1 (reads_bind _ _ _ _ _ _ c.in_ok-number.ensures.reads (reads_bind _ _ _ _ _ _ c.in_ok-number-2.ensures.reads (reads_bind _ _ _ _ _ _ c.in_ok-has_p_max.ensures (reads_bind _ _ _ _ _ _ c.in_ok-has_tdd.ensures (reads_bind _ _ _ _ _ _ c.in_ok-extended.ensures (fails_bind _ _ _ _ c.in_err-access.ensures))))))

pub returns-in_err-selection : goal.returns-in_err-selection
unfolding sib1
returns-in_err-selection c = exit _ _ _ _ c.in_err-selection.field-0.0 c.from_residual-in_err-selection.ensures.1 (reads_bind _ _ _ _ _ _ c.in_ok-number.ensures.reads (reads_bind _ _ _ _ _ _ c.in_ok-number-2.ensures.reads (reads_bind _ _ _ _ _ _ c.in_ok-has_p_max.ensures (reads_bind _ _ _ _ _ _ c.in_ok-has_tdd.ensures (reads_bind _ _ _ _ _ _ c.in_ok-extended.ensures (reads_bind _ _ _ _ _ _ c.in_ok-access.ensures (fails_bind _ _ _ _ c.in_err-selection.ensures)))))))

pub returns-in_err-p_max : goal.returns-in_err-p_max
unfolding sib1
returns-in_err-p_max c = exit _ _ _ _ c.in_err-p_max.field-0.0 c.from_residual-in_err-p_max.ensures.1 (reads_bind _ _ _ _ _ _ c.in_ok-number.ensures.reads (reads_bind _ _ _ _ _ _ c.in_ok-number-2.ensures.reads (reads_bind _ _ _ _ _ _ c.in_ok-has_p_max.ensures (reads_bind _ _ _ _ _ _ c.in_ok-has_tdd.ensures (reads_bind _ _ _ _ _ _ c.in_ok-extended.ensures (reads_bind _ _ _ _ _ _ c.in_ok-access.ensures (reads_bind _ _ _ _ _ _ c.in_ok-selection.ensures (fails_bind _ _ _ _ c.in_err-p_max.ensures))))))))

pub returns-in_err-band : goal.returns-in_err-band
unfolding sib1
returns-in_err-band c = exit _ _ _ _ c.in_err-band.field-0.0 c.from_residual-in_err-band.ensures.1 (reads_bind _ _ _ _ _ _ c.in_ok-number.ensures.reads (reads_bind _ _ _ _ _ _ c.in_ok-number-2.ensures.reads (reads_bind _ _ _ _ _ _ c.in_ok-has_p_max.ensures (reads_bind _ _ _ _ _ _ c.in_ok-has_tdd.ensures (reads_bind _ _ _ _ _ _ c.in_ok-extended.ensures (reads_bind _ _ _ _ _ _ c.in_ok-access.ensures (reads_bind _ _ _ _ _ _ c.in_ok-selection.ensures (reads_bind _ _ _ _ _ _ c.in_ok-p_max.ensures (fails_bind _ _ _ _ c.in_err-band.ensures.reads)))))))))

pub returns-in_err-scheduling : goal.returns-in_err-scheduling
unfolding sib1
returns-in_err-scheduling c = exit _ _ _ _ c.in_err-scheduling.field-0.0 c.from_residual-in_err-scheduling.ensures.1 (reads_bind _ _ _ _ _ _ c.in_ok-number.ensures.reads (reads_bind _ _ _ _ _ _ c.in_ok-number-2.ensures.reads (reads_bind _ _ _ _ _ _ c.in_ok-has_p_max.ensures (reads_bind _ _ _ _ _ _ c.in_ok-has_tdd.ensures (reads_bind _ _ _ _ _ _ c.in_ok-extended.ensures (reads_bind _ _ _ _ _ _ c.in_ok-access.ensures (reads_bind _ _ _ _ _ _ c.in_ok-selection.ensures (reads_bind _ _ _ _ _ _ c.in_ok-p_max.ensures (reads_bind _ _ _ _ _ _ c.in_ok-band.ensures.reads (fails_bind _ _ _ _ c.in_err-scheduling.ensures))))))))))

pub returns-in_err-tdd : goal.returns-in_err-tdd
unfolding sib1
returns-in_err-tdd c = exit _ _ _ _ c.in_err-tdd.field-0.0 c.from_residual-in_err-tdd.ensures.1 (reads_bind _ _ _ _ _ _ c.in_ok-number.ensures.reads (reads_bind _ _ _ _ _ _ c.in_ok-number-2.ensures.reads (reads_bind _ _ _ _ _ _ c.in_ok-has_p_max.ensures (reads_bind _ _ _ _ _ _ c.in_ok-has_tdd.ensures (reads_bind _ _ _ _ _ _ c.in_ok-extended.ensures (reads_bind _ _ _ _ _ _ c.in_ok-access.ensures (reads_bind _ _ _ _ _ _ c.in_ok-selection.ensures (reads_bind _ _ _ _ _ _ c.in_ok-p_max.ensures (reads_bind _ _ _ _ _ _ c.in_ok-band.ensures.reads (reads_bind _ _ _ _ _ _ c.in_ok-scheduling.ensures (fails_bind _ _ _ _ c.in_err-tdd.ensures)))))))))))

pub returns-in_err-window : goal.returns-in_err-window
unfolding sib1
returns-in_err-window c = exit _ _ _ _ c.in_err-window.field-0.0 c.from_residual-in_err-window.ensures.1 (reads_bind _ _ _ _ _ _ c.in_ok-number.ensures.reads (reads_bind _ _ _ _ _ _ c.in_ok-number-2.ensures.reads (reads_bind _ _ _ _ _ _ c.in_ok-has_p_max.ensures (reads_bind _ _ _ _ _ _ c.in_ok-has_tdd.ensures (reads_bind _ _ _ _ _ _ c.in_ok-extended.ensures (reads_bind _ _ _ _ _ _ c.in_ok-access.ensures (reads_bind _ _ _ _ _ _ c.in_ok-selection.ensures (reads_bind _ _ _ _ _ _ c.in_ok-p_max.ensures (reads_bind _ _ _ _ _ _ c.in_ok-band.ensures.reads (reads_bind _ _ _ _ _ _ c.in_ok-scheduling.ensures (reads_bind _ _ _ _ _ _ c.in_ok-tdd.ensures (fails_bind _ _ _ _ c.in_err-window.ensures.reads))))))))))))

pub returns-in_err-tag : goal.returns-in_err-tag
unfolding sib1
returns-in_err-tag c = exit _ _ _ _ c.in_err-tag.field-0.0 c.from_residual-in_err-tag.ensures.1 (reads_bind _ _ _ _ _ _ c.in_ok-number.ensures.reads (reads_bind _ _ _ _ _ _ c.in_ok-number-2.ensures.reads (reads_bind _ _ _ _ _ _ c.in_ok-has_p_max.ensures (reads_bind _ _ _ _ _ _ c.in_ok-has_tdd.ensures (reads_bind _ _ _ _ _ _ c.in_ok-extended.ensures (reads_bind _ _ _ _ _ _ c.in_ok-access.ensures (reads_bind _ _ _ _ _ _ c.in_ok-selection.ensures (reads_bind _ _ _ _ _ _ c.in_ok-p_max.ensures (reads_bind _ _ _ _ _ _ c.in_ok-band.ensures.reads (reads_bind _ _ _ _ _ _ c.in_ok-scheduling.ensures (reads_bind _ _ _ _ _ _ c.in_ok-tdd.ensures (reads_bind _ _ _ _ _ _ c.in_ok-window.ensures.reads (fails_bind _ _ _ _ c.in_err-tag.ensures.reads)))))))))))))

pub returns : goal.returns
returns c =
    let fits : FitsSigned w8 c.in_ok-selection.selection.q_rx = search rules in
    rw (to_z-of_z w8 c.in_ok-selection.selection.q_rx fits) (sib1_read _ _ _ _ _ _ _ _ _ _ _ _ _ _ _ _ _ _ _ _ _ _ _ _ _ _ _
    c.in_ok-number.ensures.reads c.in_ok-number-2.ensures.reads c.in_ok-has_p_max.ensures c.in_ok-has_tdd.ensures c.in_ok-extended.ensures c.in_ok-access.ensures c.in_ok-selection.ensures c.in_ok-p_max.ensures c.in_ok-band.ensures.reads c.in_ok-scheduling.ensures c.in_ok-tdd.ensures c.in_ok-window.ensures.reads c.in_ok-tag.ensures.reads)
