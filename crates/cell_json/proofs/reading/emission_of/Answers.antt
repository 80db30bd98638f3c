use Rattle.std.proofs.Common.{◌≡◌, pos, true, Some, Err, refl, ap, sym, subst, ◌∙◌, rules}
use Rattle.serde_json.specs.View.{view}
use Rattle.lte_types.specs.Ranges.{IsValid}
use Rattle.cell_plan.specs.Plan.{refusal_of}
use Rattle.cell_plan.specs.Gains.{AreGainsOf}
use Rattle.cell_plan.proofs.Sendable.{sendable_with_one}
use Rattle.cell_json.specs.Kinds.{is_between}
use Rattle.cell_json.specs.Description.{are_gains, sib1_at}
use Rattle.cell_json.proofs.Ranges.{gains_hold}
use Rattle.cell_json.proofs.Refusals.{cell_decides}
use Rattle.cell_json.proofs.Values.{has_values}
use Rattle.cell_json.proofs.reading.emission_of.Goals as goal

pub of-requires : goal.of-requires
of-requires c =
    let valid : IsValid c.in_ok-sib1.sib1 = search rules in
    subst IsValid (ap (λ plan. plan.sib1) (sym c.plan_of.ensures)) valid

pub returns-in_err-cell : goal.returns-in_err-cell
returns-in_err-cell c =
    let d = c.args.description.now in
    let json = view d.value.now in
    let s : is_between (pos 0) (pos 1023) d.sending.sfn ≡ true = search rules in
    let o : is_between (pos 0) (pos 19199) d.sending.offset ≡ true = search rules in
    let n : is_between (pos 57600) (pos 1920000) d.sending.samples ≡ true = search rules in
    let g : are_gains d.carrier d.gains ≡ true = search rules in
    let there : Some c.in_ok-sib1.sib1 ≡ sib1_at json = search rules in
    let same = cell_decides d.carrier json d.sending d.gains c.in_ok-sib1.sib1 d.has_form d.has_sending d.has_gains there s o n g in
    let failed : refusal_of d.carrier c.plan_of.result ≡ Some c.in_err-cell.field-0.0 = c.in_err-cell.ensures.refusal in
    let answer : c.from_residual-in_err-cell.result ≡ Err c.in_err-cell.field-0.0 = search rules in
    rw answer (same ∙ ap (refusal_of d.carrier) (sym c.plan_of.ensures) ∙ failed)

pub returns : goal.returns
returns c =
    let d = c.args.description.now in
    let json = view d.value.now in
    let s : is_between (pos 0) (pos 1023) d.sending.sfn ≡ true = search rules in
    let o : is_between (pos 0) (pos 19199) d.sending.offset ≡ true = search rules in
    let n : is_between (pos 57600) (pos 1920000) d.sending.samples ≡ true = search rules in
    let g : are_gains d.carrier d.gains ≡ true = search rules in
    let there : Some c.in_ok-sib1.sib1 ≡ sib1_at json = search rules in
    let same = cell_decides d.carrier json d.sending d.gains c.in_ok-sib1.sib1 d.has_form d.has_sending d.has_gains there s o n g in
    let sfn : pos c.in_ok-sfn.sfn ≡ d.sending.sfn = search rules in
    let offset : pos c.in_ok-offset.offset ≡ d.sending.offset = search rules in
    let samples : pos c.in_ok-samples.samples ≡ d.sending.samples = search rules in
    let gains : c.in_ok-gains.gains ≡ d.gains = search rules in (
      same ∙ ap (refusal_of d.carrier) (sym c.plan_of.ensures) ∙ c.in_ok-cell.ensures.refusal,
      record {
        carrier_is = refl;
        values = has_values _ _ _ _ json c.in_ok-sib1.sib1 (sendable_with_one d.carrier _ c.in_ok-cell.ensures.sendable) (c.in_ok-cell.ensures.plan ∙ c.plan_of.ensures) there
            (sfn ∙ d.has_sending.sfn) (offset ∙ d.has_sending.offset) (samples ∙ d.has_sending.samples);
        gains = gains ∙ d.has_gains;
        load = refl;
      },
    )

pub invariant_of-result-2-clause-gains_are : goal.invariant_of-result-2-clause-gains_are
invariant_of-result-2-clause-gains_are c =
    let d = c.args.description.now in
    let gains : c.in_ok-gains.gains ≡ d.gains = search rules in
    let g : are_gains d.carrier d.gains ≡ true = search rules in
    subst (AreGainsOf d.carrier) (sym gains) (gains_hold d.carrier d.gains g)

pub invariant_of-result-2-clause-accepted : goal.invariant_of-result-2-clause-accepted
invariant_of-result-2-clause-accepted c = ap (refusal_of c.args.description.now.carrier) c.in_ok-cell.ensures.plan ∙ c.in_ok-cell.ensures.refusal
