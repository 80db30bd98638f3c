-- An entry has at most one plan; in a recording that is faithful to a cell, it is the sent plan.
use Rattle.std.specs.Prelude.{IfOk}
use Rattle.std.proofs.Common.{◌≡◌, ℕ, ◌+◌, ◌%◌, ◌<◌, ◌≤◌, arith, refl, ap, sym, subst, ◌∙◌, List, [], ◌∷◌, length, Option, Some, None, Result, Ok}
use Rattle.cs_num.specs.declared.Cpx.{Cpx}
use Rattle.cs_num.specs.declared.Sample.{Sample}
use Rattle.lte_types.specs.declared.carrier.Carrier.TheVariants.{OnePort}
use Rattle.lte_types.specs.declared.duration.Duration.{Duration}
use Rattle.lte_types.specs.declared.resource.Resource.{Resource}
use Rattle.lte_types.specs.declared.sib1.Sib1.{Sib1}
use Rattle.lte_types.specs.declared.sib1_reason.Sib1Reason.{Sib1Reason}
use Rattle.lte_types.specs.declared.entry.Entry.{Entry}
use Rattle.dci.specs.declared.grant.Grant.{Grant}
use Rattle.soft_bits.specs.Places.{placed_values}
use Rattle.sib1_reader.specs.declared.reading.Attempt.{Attempt}
use Rattle.sib1_reader.specs.Subframe.{Subframe, one_port}
use Rattle.sib1_reader.specs.Attempt.{IsAttempt}
use Rattle.explain.specs.Frame.{frame_at, seen_slot}
use Rattle.explain.specs.Receiver.{subframes_by, one_port_receiver}
use Rattle.explain.specs.Entries.{place_of, IsInList}
use Rattle.explain.specs.Grant.{IsFrameAttempt, IsReadBy, IsGrantOf}
use Rattle.explain.specs.System.{even_frame}
use Rattle.explain.proofs.Granted.{one_grant_of}
use Rattle.explain.proofs.Information.{first_tried, system_is_valid}
use Rattle.explain.proofs.Listed.{is_sound}
use Rattle.lte_types.specs.Ranges.{IsValid}
use Rattle.lte_types.specs.Timing.{start_of, number_at_start}
use Rattle.cell_plan.specs.declared.error.CellError.{CellError}
use Rattle.cell_plan.specs.declared.cell.CellPlan.{CellPlan}
use Rattle.cell_grid.specs.Control.{grant_of as sent_grant}
use Rattle.cell_plan.specs.Plan.{IsSendable, plan_refusal}
use Rattle.cell_grid.specs.Grid.{Elements}
use Rattle.budget.specs.Received.{in_parts}
use Rattle.clean_air.specs.Faithful.{IsFaithful}
use Rattle.cell_plan.proofs.Sendable.{accepted_is_sendable}
use Rattle.clean_air.specs.Clean.{IsSentEntryOf}
use Rattle.clean_air.specs.Planned.{plan_by, IsPlanned, IsPlanOf, IsFaithfulPlan, IsSentPlan, FaithfulEntryHasPlan, SentEntryHasPlan, IsOnePlan}
use Rattle.clean_air.proofs.LoadedErrors.{loaded_is_faithful}
use Rattle.clean_air.proofs.FaithfulCells.{faithful_is_through}
use Rattle.clean_air.proofs.HeardCells.{through_is_heard}
use Rattle.clean_air.proofs.SentSystem.{grant_read, fields_read}
use Rattle.clean_air.proofs.HeldCells.{holds_cells}

-- ---- one plan

same_block : (a b : Sib1) (listed : Result Sib1 Sib1Reason) → listed ≡ Ok a → listed ≡ Ok b → a ≡ b
same_block a b listed e f = let both : ◌≡◌ {A = Result Sib1 Sib1Reason} (Ok a) (Ok b) = sym e ∙ f in cc

same_decoded : (a b : ℕ × Grant) → ◌≡◌ {A = Option (ℕ × Grant)} (Some a) (Some b) → a ≡ b
same_decoded a b e = cc

pub one_planned : (recording : List Sample) (entry : Entry) (a b : CellPlan) → IsPlanned recording entry a → IsPlanned recording entry b → a ≡ b
one_planned recording entry a b p q =
    let decoded = same_decoded (a.cfi, p.grant) (b.cfi, q.grant) (one_grant_of one_port_receiver recording (place_of entry) entry.sfn entry.mib entry.sib1 (Some (a.cfi, p.grant)) (Some (b.cfi, q.grant)) p.granted q.granted) in
    let block = same_block a.sib1 b.sib1 entry.sib1 p.listed q.listed in
    p.plan_is
    ∙ ap (λ (t : ℕ × Grant). plan_by entry t.0 t.1 a.sib1) decoded
    ∙ ap (λ (s : Sib1). plan_by entry b.cfi q.grant s) block
    ∙ sym q.plan_is

pub one_plan_of : IsOnePlan
one_plan_of recording entry None None p q = refl
one_plan_of recording entry None (Some b) p q = absurd (p b q)
one_plan_of recording entry (Some a) None p q = absurd (q a p)
one_plan_of recording entry (Some a) (Some b) p q = ap (λ (plan : CellPlan). Some plan) (one_planned recording entry a b p q)

-- ---- an entry's fields

-- the fields are in their ranges
pub valid_fields : (recording : List Sample) (entry : Entry) (fields : Sib1) → IsInList recording entry → entry.sib1 ≡ Ok fields → IsValid fields
valid_fields recording entry fields listed same =
    let known = is_sound one_port_receiver recording listed.list entry listed.explained listed.inside in
    subst (λ (answer : Result Sib1 Sib1Reason). IfOk answer IsValid) same
    (system_is_valid one_port_receiver recording (place_of entry) entry.sfn entry.ports entry.mib entry.sib1 known.is_of.sib1)

-- the plan that is made is the entry's, if it is accepted
module _ (recording : List Sample) (entry : Entry) (indicator : ℕ) (grant : Grant) (fields : Sib1) (granted : IsGrantOf recording entry (Some (indicator, grant)))
    (same : entry.sib1 ≡ Ok fields) where
  pub refused_plan : (cause : CellError) → plan_refusal (plan_by entry indicator grant fields) ≡ Some cause → (plan : CellPlan) → IsPlanned recording entry plan → ⊥
  refused_plan cause refused plan p =
      let decoded = same_decoded (plan.cfi, p.grant) (indicator, grant) (one_grant_of one_port_receiver recording (place_of entry) entry.sfn entry.mib entry.sib1 (Some (plan.cfi, p.grant)) (Some (indicator, grant)) p.granted granted) in
      let block = same_block plan.sib1 fields entry.sib1 p.listed same in
      let made : plan ≡ plan_by entry indicator grant fields =
      p.plan_is ∙ ap (λ (t : ℕ × Grant). plan_by entry t.0 t.1 plan.sib1) decoded ∙ ap (λ (s : Sib1). plan_by entry indicator grant s) block in
      both (sym refused ∙ ap (λ (q : CellPlan). plan_refusal q) (sym made) ∙ p.accepted)
    where
      both : ◌≡◌ {A = Option CellError} (Some cause) None → ⊥
      both e = absurd cc

-- ---- a faithful recording

abbrev attempt_with : ℕ → Grant → Sib1 → Attempt
attempt_with i g f = record { cfi = i; grant = Some g; answer = Ok f }

same_attempt : (attempt : Attempt) (i : ℕ) (g : Grant) (f : Sib1) → attempt.cfi ≡ i → attempt.grant ≡ Some g → attempt.answer ≡ Ok f → attempt ≡ attempt_with i g f
same_attempt attempt i g f x y z = built attempt.cfi attempt.grant attempt.answer x y z
  where
    built : (j : ℕ) (h : Option Grant) (a : Result Sib1 Sib1Reason) → j ≡ i → h ≡ Some g → a ≡ Ok f →
        ◌≡◌ {A = Attempt} (record { cfi = j; grant = h; answer = a }) (record { cfi = i; grant = Some g; answer = Ok f })
    built j h a x y z = rw (x, y, z) refl

module _ (recording : List Sample) (entry : Entry) (plan : CellPlan) (grid : Elements) (sfn offset : ℕ) (gain : Cpx) (long : 57600 ≤ length recording) (listed : IsInList recording entry)
    (sendable : IsSendable plan) (faithful : IsFaithful recording plan grid sfn offset gain) (id : entry.id ≡ plan.identity) (start : entry.start ≡ start_of offset)
    (number : entry.sfn ≡ number_at_start sfn offset) where
  abbrev sent_sfn : ℕ
  sent_sfn = number_at_start sfn offset

  early : start_of offset < 19200
  early = omega arith

  -- the entry is the cell's
  is_sent : IsSentEntryOf OnePort plan sent_sfn entry
  is_sent =
      let held = (holds_cells recording listed.list long listed.explained).faithful plan (λ port. grid) sfn offset (gain ∷ []) sendable faithful in
      subst (λ (e : Entry). IsSentEntryOf OnePort plan (number_at_start sfn offset) e) (sym (held.only entry listed.inside id start number)) held.sent

  -- the soft values of a frame's subframe 5
  abbrev values_at : ℕ → ℕ → ℕ → Duration → Resource → Subframe
  values_at identity first k duration resource =
      one_port (seen_slot recording (frame_at first k) 10 identity) (seen_slot recording (frame_at first k) 11 identity) duration resource

  -- the frame that is tried first
  abbrev j : ℕ
  j = even_frame sent_sfn 0

  abbrev granted : Grant
  granted = sent_grant plan ((sent_sfn + j) % 1024)

  -- the frame is read with the plan's indicator and grant, by the cell's resource elements
  attempt_read : IsFrameAttempt (subframes_by OnePort placed_values) recording (place_of entry) entry.mib (even_frame entry.sfn 0) (attempt_with plan.cfi granted plan.sib1)
  attempt_read =
      let heard = through_is_heard recording plan grid sfn offset (faithful_is_through recording plan (λ port. grid) sfn offset (gain ∷ []) sendable.identity faithful) in
      let reads = fields_read recording plan grid sfn offset sendable heard in
      let has = (grant_read recording plan grid sfn offset sendable heard).attempt reads.attempt reads.is in
      let is = subst (λ (a : Attempt). IsAttempt (values_at plan.identity (start_of offset) j plan.duration plan.resource) a) (same_attempt reads.attempt plan.cfi granted plan.sib1 has.cfi has.granted reads.answers) reads.is in
      rw (id, start, number, is_sent.block.duration, is_sent.block.resource) is

  read_by : IsReadBy (IsFrameAttempt (subframes_by OnePort placed_values) recording (place_of entry) entry.mib) recording entry.start entry.sfn entry.sib1 (plan.cfi, granted)
  read_by = record {
    i = 0;
    tried = let t = first_tried recording (start_of offset) sent_sfn long early in rw (start, number) t;
    fields = plan.sib1;
    attempt = attempt_read;
    first = λ h attempt other before at same. absurd (omega (arith, before));
    answers = is_sent.sib1;
  }

  plan_is : plan ≡ plan_by entry plan.cfi granted plan.sib1
  plan_is = rw (id, is_sent.block.duration, is_sent.block.resource, is_sent.block.spare) refl

  planned : IsPlanned recording entry plan
  planned = record {
    grant = granted;
    granted = read_by;
    listed = is_sent.sib1;
    ports = is_sent.ports;
    bandwidth = is_sent.block.bandwidth;
    plan_is = plan_is;
    accepted = ((accepted_is_sendable plan).1 sendable).1;
  }

pub faithful_entry_has_plan : FaithfulEntryHasPlan
faithful_entry_has_plan recording entry plan grid sfn offset gain is listed sendable faithful id start number =
    planned recording entry plan grid sfn offset gain is.least listed sendable faithful id start number

pub sent_entry_has_plan : SentEntryHasPlan
sent_entry_has_plan recording entry plan grid sfn offset gain eps is listed sendable clean id start number =
    faithful_entry_has_plan recording entry plan grid sfn offset (in_parts gain) is listed sendable
    (loaded_is_faithful OnePort recording plan (λ port. grid) sfn offset (gain ∷ []) eps is.least clean) id start number

pub faithful_plan : (recording : List Sample) (entry : Entry) (answer : Option CellPlan) → 57600 ≤ length recording → IsInList recording entry →
    IsPlanOf recording entry answer → IsFaithfulPlan recording entry answer
faithful_plan recording entry answer long listed is plan grid sfn offset gain sendable faithful id start number =
    one_plan_of recording entry answer (Some plan) is (planned recording entry plan grid sfn offset gain long listed sendable faithful id start number)

pub sent_plan : (recording : List Sample) (entry : Entry) (answer : Option CellPlan) → 57600 ≤ length recording → IsFaithfulPlan recording entry answer → IsSentPlan recording entry answer
sent_plan recording entry answer long is plan grid sfn offset gain eps sendable clean id start number =
    is plan grid sfn offset (in_parts gain) sendable (loaded_is_faithful OnePort recording plan (λ port. grid) sfn offset (gain ∷ []) eps long clean) id start number
