-- Cell plans that can be sent. (own, with the ranges of TS 36.211 sections 6.11 and 6.7, TS 36.213 section 7.1 and TS
-- 36.331 section 6.2.2)
use Rattle.std.specs.Prelude.{◌≡◌, ◌⊎◌, ◌+◌, ◌≤◌, Bool, true, false, not, ◌&&◌, ◌||◌, nat_eq, nat_le, if◌then◌else◌, List, [], ◌∷◌}
use Rattle.std.specs.Prelude.{length, Option, None, is_some, is_none, IsSome, IsSomeAnd}
use Rattle.lte_types.specs.declared.carrier.Carrier.{Carrier}
use Rattle.lte_types.specs.declared.carrier.Carrier.TheVariants.{OnePort}
use Rattle.lte_types.specs.Carrier.{ports_of, has_control_by}
use Rattle.lte_types.specs.Ranges.{IsValid}
use Rattle.lte_types.specs.Assignment.{AreBlocks}
use Rattle.dci.specs.Sizes.{size_of}
use Rattle.sib1.specs.Text.{text_of}
use Rattle.cell_plan.specs.declared.error.CellError.{CellError}
use Rattle.cell_plan.specs.declared.error.CellError.TheVariants.{Identity, Spare, Cfi, Assignment, Mcs, Punctured, Duplex}
use Rattle.cell_plan.specs.declared.error.CellError.TheVariants.{Extension, Sib1Long}
use Rattle.cell_plan.specs.declared.cell.CellPlan.{CellPlan}
use Rattle.cell_plan.specs.Conditions.{Condition, condition, first_failed}
use Rattle.cell_plan.specs.Transport.{block_size, text_fits, has_block, is_whole_of}
use Rattle.cell_plan.specs.Transport.{is_whole, is_resolvable}
use Rattle.lte_types.specs.Numerology.{block_count}

-- A plan can be sent. The conditions that do not depend on the antenna ports hold, and `Enough` states that enough of
-- the transport block is sent. The MIB has bandwidth n6.
pub record IsSendableWith (Enough : Type 0) (plan : CellPlan) : Type 0 where
  pub valid : IsValid plan.sib1
  pub identity : plan.identity ≤ 503
  pub spare : plan.spare ≤ 1023
  pub cfi : (2 ≤ plan.cfi) × (plan.cfi ≤ 3)
  pub assignment : AreBlocks plan.start plan.blocks
  pub column : (plan.column ≡ 2) ⊎ (plan.column ≡ 3)
  pub mcs : IsSome (size_of plan.mcs plan.column)
  pub enough : Enough
  pub duplex : plan.sib1.tdd ≡ None
  pub extension : plan.sib1.extended ≡ false
  pub text : IsSomeAnd (text_of plan.sib1) (λ text. length text ≤ block_size plan)

-- A plan can be sent with one antenna port: the bits that are sent resolve the transport block, as they do if each
-- coded bit is sent.
abbrev pub IsSendable : CellPlan → Type 0
IsSendable plan = IsSendableWith (is_resolvable plan ≡ true) plan

-- Whether a transmission scheme must send each coded bit of a transport block: two antenna ports must, in the resource
-- elements that neither port's reference signals occupy. With the extended cyclic prefix, or four ports, no transport
-- block is sent; with one port, the bits that are sent need only resolve the block.
abbrev pub needs_each_bit : Carrier → Bool
needs_each_bit carrier = has_control_by carrier && nat_eq (ports_of carrier) 2

-- A transmission scheme can send a plan: each coded bit is sent if that is needed, and otherwise the plan can be sent
-- with one antenna port, even if the scheme sends no transport block.
abbrev pub IsSendableBy : Carrier → CellPlan → Type 0
IsSendableBy carrier plan =
    IsSendableWith ((if needs_each_bit carrier then is_whole_of carrier plan else is_resolvable plan) ≡ true) plan

-- the conditions on a plan in the order in which they are checked; `enough` states whether enough of the plan's
-- transport block is sent
abbrev pub conditions_with : Bool → CellPlan → List Condition
conditions_with enough plan =
    condition (nat_le plan.identity 503) Identity
    ∷ condition (nat_le plan.spare 1023) Spare
    ∷ condition (nat_le 2 plan.cfi && nat_le plan.cfi 3) Cfi
    ∷ condition (nat_le 1 plan.blocks && nat_le (plan.start + plan.blocks) block_count) Assignment
    ∷ condition ((nat_eq plan.column 2 || nat_eq plan.column 3) && is_some (size_of plan.mcs plan.column)) Mcs
    ∷ condition enough Punctured
    ∷ condition (is_none plan.sib1.tdd) Duplex
    ∷ condition (not plan.sib1.extended) Extension
    ∷ condition (text_fits plan) Sib1Long
    ∷ []

-- Whether a transmission scheme sends enough of the plan's transport block. With two antenna ports, enough is each
-- coded bit. Otherwise one antenna port sends each coded bit, or the plan has a block that the sent bits resolve.
abbrev pub is_enough : Carrier → CellPlan → Bool
is_enough carrier plan =
    if needs_each_bit carrier then is_whole_of carrier plan
    else is_whole plan || (has_block plan && is_resolvable plan)

-- the conditions on a plan that a transmission scheme sends, in order
abbrev pub conditions_of : Carrier → CellPlan → List Condition
conditions_of carrier plan = conditions_with (is_enough carrier plan) plan

-- the error of the first failed condition on a plan, or `None` if the transmission scheme can send the plan
abbrev pub refusal_of : Carrier → CellPlan → Option CellError
refusal_of carrier plan = first_failed (conditions_of carrier plan)

-- the error of the first failed condition on a plan for one antenna port, or `None` if all conditions hold
abbrev pub plan_refusal : CellPlan → Option CellError
plan_refusal plan = refusal_of OnePort plan
