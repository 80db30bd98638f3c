use Rattle.std.proofs.Common.{rules, ◌≡◌, ℕ, ◌+◌, ◌≤◌, Bool, true, false, not, nat_le, List, length, ap, sym, ◌∙◌, arith}
use Rattle.std.specs.Prelude.{is_some, is_none}
use Rattle.std.specs.Option.{option_map_or}
use Rattle.sib1.specs.Text.{text_of}
use Rattle.cs_bits.specs.Checks.{with_check_24}
use Rattle.turbo_code.specs.Encoder.{coded}
use Rattle.cell_plan.specs.Transport.{filled, row_with}
use Rattle.cell_plan.specs.Parts.{ArePartsOf}
use Rattle.cell_plan.specs.Plan.{IsSendableBy}
use Rattle.cell_plan.proofs.Sendable.{indicated, accepted_is_sendable_by, sendable_with_one}
use Rattle.dci.proofs.SizeRows.{size_fits}
use Rattle.cell_plan.proofs.NewCells.{has_size, sized_is, refused_text, IsAccepted, accepted_can_be_sent, accepted_is_coded}
use Rattle.cell_plan.proofs.cell.Cell.of.Goals as goal

-- consequences for the plan of the steps before its block is encoded
module _ (c : goal.After-coded_block-coded) where
  accepted : IsAccepted c.args.carrier c.args.plan c.in-Some-size_of.size c.in-Some-text_of.text
  accepted =
      let identity : c.args.plan.identity ≤ 503 = search rules in
      let spare = c.if-plan-gt1023.false in
      let indicator = (indicated c.args.plan).0 c.in-Some-indicator_of.ensures.0 in
      let duplex : is_some c.args.plan.sib1.tdd ≡ false = search rules in
      record {
        valid = c.requires;
        identity = identity;
        spare = omega (arith, spare);
        low = indicator.0;
        high = indicator.1;
        blocks = c.in-Some-assignment_of.ensures.0;
        sized = has_size c.args.plan c.in-Some-size_of.size _ c.in-Some-size_of.is c.size_of.ensures.value;
        enough = sym c.if-not-is_sent_enough.ensures;
        duplex = duplex;
        extension = c.if-plan.false;
        text_is = c.in-Some-text_of.ensures.0;
        fits = c.in-Some-text_of.ensures.1;
      }

  can_be_sent : IsSendableBy c.args.carrier c.args.plan
  can_be_sent = accepted_can_be_sent c.args.carrier c.args.plan c.in-Some-size_of.size c.in-Some-text_of.text accepted

pub invariant_of-result : goal.invariant_of-result
invariant_of-result c =
    let a = accepted c in
    let row = size_fits c.args.plan.mcs c.args.plan.column c.in-Some-size_of.size a.sized.entry in
    let d = c.coded_block-coded.ensures.d ∙ ap (λ (text : List Bool). coded (row_with (c.in-Some-size_of.size + 24)) (with_check_24 (filled c.in-Some-size_of.size text))) c.bits.ensures.bits in
    let parts : ArePartsOf c.args.plan c.in-Some.id c.in-Some-assignment_of.assignment c.in-Some-size_of.size = record { identity_is = c.in-Some.ensures.value; assignment_is = c.in-Some-assignment_of.ensures.1; size_is = a.sized.entry } in
    (sendable_with_one c.args.carrier c.args.plan (can_be_sent c), parts, accepted_is_coded c.args.carrier c.args.plan c.in-Some-size_of.size c.in-Some-text_of.text c.coded_block-coded.result a row c.coded_block-coded.ensures.k d)

pub returns-in_default-text_of-clause-refusal : goal.returns-in_default-text_of-clause-refusal
returns-in_default-text_of-clause-refusal c =
    let plan = c.args.plan in
    let fits : ℕ → Bool = λ size. option_map_or (λ (text : List Bool). nat_le (length text) size) (text_of plan.sib1) false in
    let sized = has_size plan c.in-Some-size_of.size _ c.in-Some-size_of.is c.size_of.ensures.value in
    let identity : nat_le plan.identity 503 ≡ true = search rules in
    let spare : nat_le plan.spare 1023 ≡ true = search rules in
    let duplex : is_none plan.sib1.tdd ≡ true = search rules in
    let extension : not plan.sib1.extended ≡ true = search rules in
    refused_text c.args.carrier plan identity spare c.in-Some-indicator_of.ensures.0 c.in-Some-assignment_of.ensures.0 (sized_is plan c.in-Some-size_of.size sized) (sym c.if-not-is_sent_enough.ensures) duplex extension
    (ap fits sized.is ∙ c.in_default-text_of.ensures)

pub returns-clause-refusal : goal.returns-clause-refusal
returns-clause-refusal c = ((accepted_is_sendable_by c.args.carrier c.args.plan).1 (can_be_sent c)).1

pub returns-clause-sendable : goal.returns-clause-sendable
returns-clause-sendable c = can_be_sent c
