use Rattle.std.proofs.Common.{◌∙◌, sym, ap, subst, length, List, Some, None}
use Rattle.finite.proofs.Lists.{values_below-length}
use Rattle.cs_num.specs.declared.Sample.{Sample}
use Rattle.cs_num.specs.Complex.{sample_of}
use Rattle.cancel.specs.Residue.{sent_at}
use Rattle.cancel.specs.Steps.{IsTakenOff}
use Rattle.cancel.proofs.Chosen.{sent_by, chosen_by, subtracted}
use Rattle.cancel.proofs.taking.subtract_from.Goals as goal

pub best-requires-clause-count : goal.best-requires-clause-count
best-requires-clause-count c =
    ap (λ (s : List Sample). length s) c.deref.ensures.value
    ∙ ap (λ (s : List Sample). length s) c.in_ok-sent.ensures
    ∙ values_below-length c.len.result (λ i. sample_of (sent_at c.args.cell.now c.args.start c.args.sfn i))
    ∙ c.len.ensures.value
    ∙ sym (ap (λ (s : List Sample). length s) c.as_slice.ensures.value)

pub taken_off-requires-clause-count : goal.taken_off-requires-clause-count
taken_off-requires-clause-count c =
    ap (λ (s : List Sample). length s) c.deref-in-Some.ensures.value
    ∙ ap (λ (s : List Sample). length s) c.in_ok-sent.ensures
    ∙ values_below-length c.len.result (λ i. sample_of (sent_at c.args.cell.now c.args.start c.args.sfn i))
    ∙ c.len.ensures.value

pub returns-in-Some : goal.returns-in-Some
returns-in-Some c =
    let is = sent_by c.args.recording.now c.len.result c.args.cell.now c.args.start c.args.sfn c.in_ok-sent.sent.items c.in_ok-sent.ensures c.len.ensures.value in
    subtracted c.args.recording.now c.args.cell.now c.args.start c.args.sfn c.in_ok-sent.sent.items is c.in-Some.choice c.in_ok-taken-in-Some.taken
    (chosen_by _ _ _ _ _ _ c.best.result (Some c.in-Some.choice) c.as_slice.ensures.value c.deref.ensures.value c.estimate-middle.ensures.value c.in-Some.is c.best.ensures)
    (subst (λ (s : List Sample). IsTakenOff c.args.recording.now s c.in-Some.choice c.in_ok-taken-in-Some.taken) c.deref-in-Some.ensures.value c.in_ok-taken-in-Some.ensures)

pub returns : goal.returns
returns c =
    chosen_by _ _ _ _ _ _ c.best.result None c.as_slice.ensures.value c.deref.ensures.value c.estimate-middle.ensures.value c.in-None.is c.best.ensures
