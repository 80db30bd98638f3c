use Rattle.std.proofs.Common.{subst}
use Rattle.std.specs.Prelude.{IfErr, OnOk}
use Rattle.cs_outside.specs.Outside.{Outside}
use Rattle.lte_args.specs.declared.form.Form.TheVariants.{Apply}
use Rattle.lte_args.specs.declared.form.RecordingForm.{RecordingForm}
use Rattle.lte_top.specs.Run.{IsDone, Ends}
use Rattle.lte_top.proofs.Fronts.{is_plain, is_rated}
use Rattle.lte_top.proofs.tuning.apply_turn.Goals as goal

pub returns-in-None-clause-done : goal.returns-in-None-clause-done
returns-in-None-clause-done g c =
    let before : Outside = (g.S.Source.state c.args.source.now, g.K.Sink.state c.args.sink.now) in
    let now : Outside = (g.S.Source.state c.apply_plain.new.source, g.K.Sink.state c.apply_plain.new.sink) in
    subst (λ (form : RecordingForm). OnOk c.apply_plain.result (IsDone (Apply c.args.turn form) before now)) (is_plain c.args.form c.in-None.is) c.apply_plain.ensures.done

pub returns-in-None-clause-ended : goal.returns-in-None-clause-ended
returns-in-None-clause-ended g c =
    let before : Outside = (g.S.Source.state c.args.source.now, g.K.Sink.state c.args.sink.now) in
    let now : Outside = (g.S.Source.state c.apply_plain.new.source, g.K.Sink.state c.apply_plain.new.sink) in
    subst (λ (form : RecordingForm). IfErr c.apply_plain.result (Ends (Apply c.args.turn form) before now)) (is_plain c.args.form c.in-None.is) c.apply_plain.ensures.ended

pub returns-in-Some-clause-done : goal.returns-in-Some-clause-done
returns-in-Some-clause-done g c =
    let before : Outside = (g.S.Source.state c.args.source.now, g.K.Sink.state c.args.sink.now) in
    let now : Outside = (g.S.Source.state c.apply_wide.new.source, g.K.Sink.state c.apply_wide.new.sink) in
    subst (λ (form : RecordingForm). OnOk c.apply_wide.result (IsDone (Apply c.args.turn form) before now)) (is_rated c.args.form c.in-Some.rate c.in-Some.is) c.apply_wide.ensures.done

pub returns-in-Some-clause-ended : goal.returns-in-Some-clause-ended
returns-in-Some-clause-ended g c =
    let before : Outside = (g.S.Source.state c.args.source.now, g.K.Sink.state c.args.sink.now) in
    let now : Outside = (g.S.Source.state c.apply_wide.new.source, g.K.Sink.state c.apply_wide.new.sink) in
    subst (λ (form : RecordingForm). IfErr c.apply_wide.result (Ends (Apply c.args.turn form) before now)) (is_rated c.args.form c.in-Some.rate c.in-Some.is) c.apply_wide.ensures.ended
