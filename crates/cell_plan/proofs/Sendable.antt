-- The plans that fail no condition are those that can be sent.
use Rattle.std.proofs.Common.{◌≡◌, ◌⊎◌, ℕ, ◌+◌, ◌*◌, ◌≤◌, Bool, true, false, not, ◌&&◌, ◌||◌, nat_eq, nat_le, List, length, Option, Some, None, if◌then◌else◌, refl, arith, le_refl, le_trans, mul-le-mul}
use Rattle.std.specs.Prelude.{is_some, is_none, IsSome, IsSomeAnd, ◌↔◌}
use Rattle.std.specs.Bool.{Decides}
use Rattle.std.specs.Option.{option_map_or}
use Rattle.std.specs.Cmp.{unsigned_Decides}
use Rattle.std.proofs.lemmas.Bool.{le-leb, leb-true as leb-le, and_from, or_right}
use Rattle.std.proofs.lemmas.Bool.Decides.{Decides-and, Decides-or}
use Rattle.lte_types.specs.declared.carrier.Carrier.{Carrier}
use Rattle.lte_types.specs.declared.carrier.Carrier.TheVariants.{OnePort}
use Rattle.lte_types.specs.Ranges.{IsValid}
use Rattle.dci.specs.Sizes.{size_of}
use Rattle.sib1.specs.Text.{text_of}
use Rattle.cell_plan.specs.declared.error.CellError.{CellError}
use Rattle.cell_plan.specs.declared.cell.CellPlan.{CellPlan}
use Rattle.cell_plan.specs.Conditions.{first_failed}
use Rattle.cell_plan.specs.Transport.{block_size, coded_count, assigned_bits_of, text_fits, has_block, is_whole_of, is_whole, is_resolvable}
use Rattle.grid_map.proofs.BlockPlaces.{are_few}
use Rattle.cell_plan.specs.Plan.{needs_each_bit, IsSendableWith, IsSendable, conditions_with, plan_refusal}
use Rattle.cell_plan.specs.Laws.{AcceptedAreSendable, OnePortSendsAll}
use Rattle.cell_plan.proofs.WholeBlocks.{whole_is_resolvable, enough_is_resolvable}

-- ---- the first condition and the others

record Passed (holds : Bool) (rest : Option CellError) : Type 0 where
  first : holds ≡ true
  others : rest ≡ None

passed : (holds : Bool) (cause : CellError) (rest : Option CellError) → (if holds then rest else Some cause) ≡ None → Passed holds rest
passed true cause rest e = record { first = refl; others = e }
passed false cause rest e = absurd cc

pub pass : {to : Option CellError} (holds : Bool) (cause : CellError) (rest : Option CellError) → holds ≡ true → rest ≡ to → (if holds then rest else Some cause) ≡ to
pass true cause rest h e = e
pass false cause rest h e = absurd cc

-- ---- the meaning of each condition

le_decides : (a b : ℕ) → Decides (nat_le a b) (a ≤ b)
le_decides a b = (leb-le a b, le-leb a b)

is_there : {A : Type 0} (o : Option A) → Decides (is_some o) (IsSome o)
is_there None = (λ e. cc, λ s. cc)
is_there (Some x) = (λ e. refl, λ s. refl)

is_absent : {A : Type 0} (o : Option A) → Decides (is_none o) (o ≡ None)
is_absent None = (λ e. refl, λ e. refl)
is_absent (Some x) = (λ e. absurd cc, λ e. absurd cc)

is_not : (b : Bool) → Decides (not b) (b ≡ false)
is_not true = (λ e. absurd cc, λ e. absurd cc)
is_not false = (λ e. refl, λ e. refl)

fits : (o : Option (List Bool)) (size : ℕ) → Decides (option_map_or (λ text. nat_le (length text) size) o false) (IsSomeAnd o (λ text. length text ≤ size))
fits None size = (λ e. absurd cc, λ s. absurd s)
fits (Some text) size = le_decides (length text) size

pub indicated : (plan : CellPlan) → Decides (nat_le 2 plan.cfi && nat_le plan.cfi 3) ((2 ≤ plan.cfi) × (plan.cfi ≤ 3))
indicated plan = Decides-and _ _ (le_decides 2 plan.cfi) (le_decides plan.cfi 3)

pub assigned : (plan : CellPlan) → Decides (nat_le 1 plan.blocks && nat_le (plan.start + plan.blocks) 6) ((1 ≤ plan.blocks) × (plan.start + plan.blocks ≤ 6))
assigned plan = Decides-and _ _ (le_decides 1 plan.blocks) (le_decides (plan.start + plan.blocks) 6)

-- a plan whose text fits has a block
has_its_block : (plan : CellPlan) → plan.sib1.tdd ≡ None → plan.sib1.extended ≡ false → IsSomeAnd (text_of plan.sib1) (λ text. length text ≤ block_size plan) → has_block plan ≡ true
has_its_block plan duplex extension text =
    and_from (is_none plan.sib1.tdd && not plan.sib1.extended) (text_fits plan)
    (and_from (is_none plan.sib1.tdd) (not plan.sib1.extended) ((is_absent plan.sib1.tdd).1 duplex) ((is_not plan.sib1.extended).1 extension))
    ((fits (text_of plan.sib1) (block_size plan)).1 text)

-- a test that implies `Enough` for each plan with a size, and follows from it for each plan with a block
module _ (enough : Bool) (Enough : Type 0) (plan : CellPlan) (is_enough : IsSome (size_of plan.mcs plan.column) → enough ≡ true → Enough)
    (is_passed : has_block plan ≡ true → Enough → enough ≡ true) where
  sized : Decides ((nat_eq plan.column 2 || nat_eq plan.column 3) && is_some (size_of plan.mcs plan.column)) (((plan.column ≡ 2) ⊎ (plan.column ≡ 3)) × IsSome (size_of plan.mcs plan.column))
  sized = Decides-and _ _ (Decides-or _ _ (unsigned_Decides plan.column 2) (unsigned_Decides plan.column 3)) (is_there (size_of plan.mcs plan.column))

  sendable : IsValid plan.sib1 × (first_failed (conditions_with enough plan) ≡ None) → IsSendableWith Enough plan
  sendable h =
      let a = passed (nat_le plan.identity 503) _ _ h.1 in
      let b = passed (nat_le plan.spare 1023) _ _ a.others in
      let c = passed (nat_le 2 plan.cfi && nat_le plan.cfi 3) _ _ b.others in
      let d = passed (nat_le 1 plan.blocks && nat_le (plan.start + plan.blocks) 6) _ _ c.others in
      let e = passed ((nat_eq plan.column 2 || nat_eq plan.column 3) && is_some (size_of plan.mcs plan.column)) _ _ d.others in
      let f = passed enough _ _ e.others in
      let g = passed (is_none plan.sib1.tdd) _ _ f.others in
      let i = passed (not plan.sib1.extended) _ _ g.others in
      let j = passed (text_fits plan) _ _ i.others in
      let blocks = (assigned plan).0 d.first in
      let size = sized.0 e.first in
      record {
        valid = h.0;
        identity = leb-le plan.identity 503 a.first;
        spare = leb-le plan.spare 1023 b.first;
        cfi = (indicated plan).0 c.first;
        assignment = record { some = blocks.0; inside = blocks.1 };
        column = size.0;
        mcs = size.1;
        enough = is_enough size.1 f.first;
        duplex = (is_absent plan.sib1.tdd).0 g.first;
        extension = (is_not plan.sib1.extended).0 i.first;
        text = (fits (text_of plan.sib1) (block_size plan)).0 j.first;
      }

  accepted : IsSendableWith Enough plan → IsValid plan.sib1 × (first_failed (conditions_with enough plan) ≡ None)
  accepted s = (
    s.valid,
    pass (nat_le plan.identity 503) _ _ (le-leb plan.identity 503 s.identity)
        (pass (nat_le plan.spare 1023) _ _ (le-leb plan.spare 1023 s.spare)
        (pass (nat_le 2 plan.cfi && nat_le plan.cfi 3) _ _ ((indicated plan).1 s.cfi)
        (pass (nat_le 1 plan.blocks && nat_le (plan.start + plan.blocks) 6) _ _ ((assigned plan).1 (s.assignment.some, s.assignment.inside))
        (pass ((nat_eq plan.column 2 || nat_eq plan.column 3) && is_some (size_of plan.mcs plan.column)) _ _ (sized.1 (s.column, s.mcs))
        (pass enough _ _ (is_passed (has_its_block plan s.duplex s.extension s.text) s.enough)
        (pass (is_none plan.sib1.tdd) _ _ ((is_absent plan.sib1.tdd).1 s.duplex)
        (pass (not plan.sib1.extended) _ _ ((is_not plan.sib1.extended).1 s.extension)
        (pass (text_fits plan) _ _ ((fits (text_of plan.sib1) (block_size plan)).1 s.text) refl)))))))),
  )

-- the test decides whether the plan can be sent
pub accepted_is_sendable_with : (whole : Bool) (Whole : Type 0) (whole_is : Decides whole Whole) (plan : CellPlan) → (IsValid plan.sib1 × (first_failed (conditions_with whole plan) ≡ None)) ↔ IsSendableWith Whole plan
accepted_is_sendable_with whole Whole whole_is plan = (
  sendable whole Whole plan (λ sized e. whole_is.0 e) (λ block w. whole_is.1 w),
  accepted whole Whole plan (λ sized e. whole_is.0 e) (λ block w. whole_is.1 w),
)

-- ---- with one antenna port

passes : (plan : CellPlan) → has_block plan ≡ true → is_resolvable plan ≡ true → (is_whole plan || (has_block plan && is_resolvable plan)) ≡ true
passes plan block resolvable = or_right (is_whole plan) _ (and_from (has_block plan) (is_resolvable plan) block resolvable)

pub accepted_is_sendable : (plan : CellPlan) → (IsValid plan.sib1 × (plan_refusal plan ≡ None)) ↔ IsSendable plan
accepted_is_sendable plan =
    let test = is_whole plan || (has_block plan && is_resolvable plan) in (
      sendable test (is_resolvable plan ≡ true) plan (enough_is_resolvable plan) (passes plan),
      accepted test (is_resolvable plan ≡ true) plan (enough_is_resolvable plan) (passes plan),
    )

-- ---- for each scheme

accepted_by : (each : Bool) (carrier : Carrier) (plan : CellPlan) →
    (IsValid plan.sib1 × (first_failed (conditions_with (if each then is_whole_of carrier plan else (is_whole plan || (has_block plan && is_resolvable plan))) plan) ≡ None))
    ↔ IsSendableWith ((if each then is_whole_of carrier plan else is_resolvable plan) ≡ true) plan
accepted_by true carrier plan = accepted_is_sendable_with (is_whole_of carrier plan) (is_whole_of carrier plan ≡ true) (λ e. e, λ e. e) plan
accepted_by false carrier plan = accepted_is_sendable plan

pub accepted_is_sendable_by : AcceptedAreSendable
accepted_is_sendable_by carrier plan = accepted_by (needs_each_bit carrier) carrier plan

-- the same plan with a different condition on the sent bits
pub with_enough : (Enough Other : Type 0) (plan : CellPlan) → IsSendableWith Enough plan → Other → IsSendableWith Other plan
with_enough Enough Other plan s other = record {
  valid = s.valid;
  identity = s.identity;
  spare = s.spare;
  cfi = s.cfi;
  assignment = s.assignment;
  column = s.column;
  mcs = s.mcs;
  enough = other;
  duplex = s.duplex;
  extension = s.extension;
  text = s.text;
}

-- no scheme has more room than one port with the normal cyclic prefix
less_bits : (carrier : Carrier) (plan : CellPlan) → assigned_bits_of carrier plan ≤ assigned_bits_of OnePort plan
less_bits carrier plan = doubled _ _ (mul-le-mul (are_few carrier plan.cfi).most (le_refl plan.blocks))
  where
    doubled : (a b : ℕ) → a ≤ b → 2 * a ≤ 2 * b
    doubled a b l = omega (arith, l)

pub sendable_with_one : OnePortSendsAll
sendable_with_one carrier plan = by (needs_each_bit carrier)
  where
    by : (each : Bool) → IsSendableWith ((if each then is_whole_of carrier plan else is_resolvable plan) ≡ true) plan → IsSendable plan
    by true s =
        with_enough (is_whole_of carrier plan ≡ true) (is_resolvable plan ≡ true) plan s
        (whole_is_resolvable plan s.mcs (le_trans (leb-le (coded_count plan) (assigned_bits_of carrier plan) s.enough) (less_bits carrier plan)))
    by false s = s
