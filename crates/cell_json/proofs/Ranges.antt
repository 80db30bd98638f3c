-- Consequences of a description's conditions.
use Rattle.std.proofs.Common.{◌≡◌, ℕ, ◌+◌, ◌≤◌, ◌<◌, ◌/◌, ◌&&◌, nat_le, ℤ, pos, arith, refl, ap, ap₂, sym, subst, ◌∙◌, Bool, true, false, if◌then◌else◌, nat_abs, List, ◌∷◌, Some, None, is_some}
use Rattle.std.specs.Prelude.{codes}
use Rattle.serde_json.specs.Data.{Data}
use Rattle.serde_json.specs.Find.{get}
use Rattle.std.proofs.lemmas.Int.{ints}
use Rattle.std.proofs.lemmas.Bool.Decides.{nat_tests}
use Rattle.std.proofs.lemmas.Option.{option_and_then_some}
use Rattle.cs_num.specs.declared.Cpx.{Cpx}
use Rattle.cs_num.specs.Complex.{square, value_at}
use Rattle.cs_num.specs.Gain.{IsGain}
use Rattle.lte_types.specs.declared.carrier.Carrier.{Carrier}
use Rattle.lte_types.specs.declared.carrier.Carrier.TheVariants.{OnePort}
use Rattle.lte_types.specs.Carrier.{ports_of}
use Rattle.lte_types.specs.declared.sib1.Sib1.{Sib1}
use Rattle.lte_types.specs.Ranges.{IsValid}
use Rattle.lte_types.specs.Timing.{IsOffset}
use Rattle.cell_plan.specs.declared.cell.CellPlan.{CellPlan}
use Rattle.cell_plan.specs.declared.emission.Emission.{Emission}
use Rattle.cell_plan.specs.declared.error.CellError.{CellError}
use Rattle.cell_plan.specs.declared.error.CellError.TheVariants.{Form, Sfn, Offset, Samples, Gain, Sib1Range}
use Rattle.cell_plan.specs.declared.transmission.Transmission.{Transmission}
use Rattle.cell_plan.specs.Conditions.{Condition, condition, first_failed}
use Rattle.cell_plan.specs.Plan.{IsSendable, IsSendableBy, refusal_of}
use Rattle.cell_plan.specs.Gains.{AreGainsOf, power_of}
use Rattle.cell_plan.specs.Pair.{gain_of}
use Rattle.cell_plan.proofs.Powers.{part, in_four_parts, gains_are_together}
use Rattle.cell_plan.proofs.Sendable.{accepted_is_sendable_by, sendable_with_one}
use Rattle.cell_json.specs.Kinds.{is_between}
use Rattle.cell_json.specs.Information.{sib1_in}
use Rattle.cell_json.specs.Description.{are_gains, has_form, number_at, gains_at, sib1_at, in_field, plan_of, cell_conditions, conditions}
use Rattle.cell_json.specs.Reading.{refusal_of as failed_of, DescribesBy, Describes, HasValues}
use Rattle.cell_json.proofs.Refusals.{cell_conditions_are}
use Rattle.cell_json.proofs.Valid.{read_is_valid}
use Rattle.cell_json.proofs.Values.{small_scheme, small_column}

-- if no condition in a list fails, the first holds, and none after it fails
passes : (holds : Bool) (cause : CellError) (rest : List Condition) → first_failed (condition holds cause ∷ rest) ≡ None → (holds ≡ true) × (first_failed rest ≡ None)
passes true cause rest e = (refl, e)
passes false cause rest e = absurd (cc e)

between : (least most n : ℕ) → is_between (pos least) (pos most) (pos n) ≡ true → n ≤ most
between least most n e = grind (arith, ints, nat_tests)

within : (least most n : ℕ) (z : ℤ) → pos n ≡ z → is_between (pos least) (pos most) z ≡ true → n ≤ most
within least most n z e b = between least most n (subst (λ y. is_between (pos least) (pos most) y ≡ true) (sym e) b)

both_hold : (a b c : ℕ) → (nat_le 1 a && nat_le b c) ≡ true → (1 ≤ a) × (b ≤ c)
both_hold a b c e = (grind (arith, nat_tests), grind (arith, nat_tests))

-- gains that pass the test suit a clean recording
pub gains_hold : (carrier : Carrier) (gains : List Cpx) → are_gains carrier gains ≡ true → AreGainsOf carrier gains
gains_hold carrier gains e = (gains_are_together carrier gains).1 (both_hold (square (value_at gains 0)) (power_of carrier gains) (784 / ports_of carrier) e)

-- the test of the gains by the squared magnitudes of all four
pub gains_by_squares : (carrier : Carrier) (gains : List Cpx) (one two three four most : ℕ) → one ≡ square (value_at gains 0) → two ≡ part carrier gains 1 → three ≡ part carrier gains 2
    → four ≡ part carrier gains 3 → most ≡ 784 / ports_of carrier → 1 ≤ one → nat_le (one + two + three + four) most ≡ are_gains carrier gains
gains_by_squares carrier gains one two three four most e f g h bound some =
    let parts = in_four_parts carrier gains in
    let power : one + two + three + four ≡ power_of carrier gains = omega (arith, e, f, g, h, parts) in
    let first : nat_le 1 (square (value_at gains 0)) ≡ true = subst (λ n. nat_le 1 n ≡ true) e (grind (arith, nat_tests)) in
    ap₂ nat_le power bound ∙ ap (λ b. b && nat_le (power_of carrier gains) (784 / ports_of carrier)) (sym first)

-- all conditions after the form hold
record AllHold (carrier : Carrier) (json : Data) : Type 0 where
  pub sfn : is_between (pos 0) (pos 1023) (number_at (codes "sfn") json) ≡ true
  pub offset : is_between (pos 0) (pos 19199) (number_at (codes "offset") json) ≡ true
  pub gains : are_gains carrier (gains_at carrier json) ≡ true
  pub cell : first_failed (cell_conditions carrier json) ≡ None

all_hold : (carrier : Carrier) (json : Data) → first_failed (conditions carrier json) ≡ None → AllHold carrier json
all_hold carrier json e =
    let r5 : List Condition = condition (is_some (sib1_at json)) Sib1Range ∷ cell_conditions carrier json in
    let r4 : List Condition = condition (are_gains carrier (gains_at carrier json)) Gain ∷ r5 in
    let r3 : List Condition = condition (is_between (pos 57600) (pos 1920000) (number_at (codes "samples") json)) Samples ∷ r4 in
    let r2 : List Condition = condition (is_between (pos 0) (pos 19199) (number_at (codes "offset") json)) Offset ∷ r3 in
    let r1 : List Condition = condition (is_between (pos 0) (pos 1023) (number_at (codes "sfn") json)) Sfn ∷ r2 in
    let p0 = passes (has_form carrier json) Form r1 e in
    let p1 = passes (is_between (pos 0) (pos 1023) (number_at (codes "sfn") json)) Sfn r2 p0.1 in
    let p2 = passes (is_between (pos 0) (pos 19199) (number_at (codes "offset") json)) Offset r3 p1.1 in
    let p3 = passes (is_between (pos 57600) (pos 1920000) (number_at (codes "samples") json)) Samples r4 p2.1 in
    let p4 = passes (are_gains carrier (gains_at carrier json)) Gain r5 p3.1 in
    let p5 = passes (is_some (sib1_at json)) Sib1Range (cell_conditions carrier json) p4.1 in
    record { sfn = p1.0; offset = p2.0; gains = p4.0; cell = p5.1 }

-- ---- the cell

-- a field below its maximum holds the number
held : (most n : ℕ) (z : ℤ) → pos n ≡ z → in_field most z < most → in_field most z ≡ n
held most n z e below = settle (is_between (pos 0) (pos most) z) refl below
  where
    settle : (b : Bool) → is_between (pos 0) (pos most) z ≡ b → (if b then nat_abs z else most) < most → in_field most z ≡ n
    settle true is h = rw is (ap nat_abs (sym e))
    settle false is h = absurd (omega (arith, h))

block_is_valid : (json : Data) (sib1 : Sib1) → Some sib1 ≡ sib1_at json → IsValid sib1
block_is_valid json sib1 e = option_and_then_some sib1_in (get (codes "sib1") json) sib1 (sym e) (λ inner is h. read_is_valid inner sib1 h)

-- a plan with a description's values is the description's plan
same_plan : (plan : CellPlan) (sfn offset samples : ℕ) (json : Data) → HasValues plan sfn offset samples json → IsSendable (plan_of json plan.sib1) → plan_of json plan.sib1 ≡ plan
same_plan plan sfn offset samples json values s =
    let identity = held 65535 plan.identity (number_at (codes "identity") json) values.identity (omega (arith, s.identity)) in
    let spare = held 65535 plan.spare (number_at (codes "spare") json) values.spare (omega (arith, s.spare)) in
    let cfi = held 255 plan.cfi (number_at (codes "cfi") json) values.cfi (omega (arith, s.cfi.1)) in
    let start = held 255 plan.start (number_at (codes "start") json) values.start (omega (arith, s.assignment.inside)) in
    let blocks = held 255 plan.blocks (number_at (codes "blocks") json) values.blocks (omega (arith, s.assignment.inside)) in
    let mcs = held 255 plan.mcs (number_at (codes "mcs") json) values.mcs
    (small_scheme (in_field 255 (number_at (codes "mcs") json)) (in_field 255 (number_at (codes "column") json)) s.mcs) in
    let column = held 255 plan.column (number_at (codes "column") json) values.column (small_column (in_field 255 (number_at (codes "column") json)) s.column) in
    same plan (plan_of json plan.sib1) identity (sym values.duration) (sym values.resource) spare cfi start blocks mcs column refl
  where
    same : (b a : CellPlan) → a.identity ≡ b.identity → a.duration ≡ b.duration → a.resource ≡ b.resource → a.spare ≡ b.spare → a.cfi ≡ b.cfi
        → a.start ≡ b.start → a.blocks ≡ b.blocks → a.mcs ≡ b.mcs → a.column ≡ b.column → a.sib1 ≡ b.sib1 → a ≡ b
    same b a e1 e2 e3 e4 e5 e6 e7 e8 e9 e10 = λ i. record {
      identity = e1 i;
      duration = e2 i;
      resource = e3 i;
      spare = e4 i;
      cfi = e5 i;
      start = e6 i;
      blocks = e7 i;
      mcs = e8 i;
      column = e9 i;
      sib1 = e10 i;
    }

-- the plan, frame number and offset are in range
pub record AreInRanges (carrier : Carrier) (plan : CellPlan) (sfn offset : ℕ) : Type 0 where
  pub sendable : IsSendableBy carrier plan
  pub number : sfn ≤ 1023
  pub within : IsOffset offset

described : (carrier : Carrier) (plan : CellPlan) (sfn offset samples : ℕ) (json : Data) → AllHold carrier json → HasValues plan sfn offset samples json → AreInRanges carrier plan sfn offset
described carrier plan sfn offset samples json all values =
    let below = within 0 19199 offset (number_at (codes "offset") json) values.first all.offset in
    let accepted : refusal_of carrier (plan_of json plan.sib1) ≡ None = ap first_failed (sym (cell_conditions_are carrier json plan.sib1 values.sib1)) ∙ all.cell in
    let sendable = (accepted_is_sendable_by carrier (plan_of json plan.sib1)).0 (block_is_valid json plan.sib1 values.sib1, accepted) in
    record {
      sendable = subst (IsSendableBy carrier) (same_plan plan sfn offset samples json values (sendable_with_one carrier (plan_of json plan.sib1) sendable)) sendable;
      number = within 0 1023 sfn (number_at (codes "sfn") json) values.number all.sfn;
      within = omega (arith, below);
    }

-- the ranges of a described emission
pub record IsInRangesBy (carrier : Carrier) (e : Emission) : Type 0 where
  pub parts : AreInRanges carrier e.cell e.timing.sfn e.timing.offset
  pub gains : AreGainsOf carrier e.gains

pub described_ranges_by : (carrier : Carrier) (bytes : List ℕ) (e : Emission) → DescribesBy carrier bytes e → IsInRangesBy carrier e
described_ranges_by carrier bytes e d =
    let all = all_hold carrier d.value (ap (failed_of carrier) (sym d.json) ∙ d.valid) in
    record {
      parts = described carrier e.cell e.timing.sfn e.timing.offset e.samples d.value all d.is.values;
      gains = subst (AreGainsOf carrier) (sym d.is.gains) (gains_hold carrier (gains_at carrier d.value) all.gains);
    }

-- the ranges of a described transmission
pub record IsInRanges (t : Transmission) : Type 0 where
  pub parts : AreInRanges OnePort t.cell t.sfn t.offset
  pub gain : IsGain (gain_of t.gain)

pub described_ranges : (bytes : List ℕ) (t : Transmission) → Describes bytes t → IsInRanges t
described_ranges bytes t d =
    let all = all_hold OnePort d.value (ap (failed_of OnePort) (sym d.json) ∙ d.valid) in
    record {
      parts = described OnePort t.cell t.sfn t.offset t.samples d.value all d.values;
      gain = subst IsGain (sym d.gain) (gains_hold OnePort (gains_at OnePort d.value) all.gains);
    }
