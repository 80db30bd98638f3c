-- With the extended cyclic prefix a cell sends only the fields of a `LongPlan`.
use Rattle.std.specs.Prelude.{if◌then◌else◌}
use Rattle.cs_num.specs.Complex.{nothing}
use Rattle.std.proofs.Common.{◌≡◌, ℕ, ◌%◌, ◌∙◌, Bool, true, false, not, ◌&&◌, ◌||◌, inl, arith, refl, ap, None}
use Rattle.std.proofs.Math.Path.{fun_ext}
use Rattle.cs_num.specs.declared.Cpx.{Cpx}
use Rattle.lte_types.specs.Numerology.{extended}
use Rattle.lte_types.specs.declared.carrier.Carrier.TheVariants.{LongPrefix}
use Rattle.dci.specs.Sizes.{column_2}
use Rattle.cell_grid.specs.Ports.{long_port, port_slot, port_symbols, is_own_reference}
use Rattle.cell_plan.specs.declared.cell.CellPlan.{CellPlan}
use Rattle.cell_grid.specs.Block.{port_bit, port_point}
use Rattle.cell_grid.specs.Grid.{port_channel_value, port_element}
use Rattle.cell_grid.specs.Grid.{Elements}
use Rattle.cell_tx.specs.Sent.{prefix_sent}
use Rattle.cell_tx.specs.Emission.{sent_by}
use Rattle.cell_plan.specs.Plan.{IsSendable, refusal_of}
use Rattle.cell_plan.proofs.Sendable.{accepted_is_sendable_by}
use Rattle.cell_plan.proofs.WholeBlocks.{whole_is_resolvable}
use Rattle.capture_make.specs.Recipe.{plan as plan_of_number}
use Rattle.capture_make.proofs.Plans.{is_sendable}
use Rattle.long_prefix.specs.declared.plan.LongPlan.{LongPlan}
use Rattle.long_prefix.specs.Sent.{long_element, long_sent, HasPlan, IsKnownLong}

-- ---- the sent elements

-- a reference element belongs to another port only if it is not the port's own
once : (own : Bool) (x z : Cpx) → (if own then x else (if not own && (own || false) then nothing else z)) ≡ (if own then x else z)
once true x z = refl
once false x z = refl

at_place : (cell : CellPlan) (plan : LongPlan) → HasPlan cell plan → (sfn subframe symbol k : ℕ) → port_element long_port cell sfn subframe symbol k ≡ long_element plan sfn subframe symbol k
unfolding port_element port_channel_value port_point port_bit long_element
at_place cell plan has sfn subframe symbol k =
    once (is_own_reference long_port cell.identity (port_slot long_port subframe symbol) (symbol % port_symbols long_port) k) _ _ ∙ rw (has.identity, has.duration, has.resource, has.spare) refl

pub same_elements : (cell : CellPlan) (plan : LongPlan) → HasPlan cell plan → ◌≡◌ {A = Elements} (port_element long_port cell) (long_element plan)
same_elements cell plan has = fun_ext (λ sfn. fun_ext (λ subframe. fun_ext (λ symbol. fun_ext (λ k. at_place cell plan has sfn subframe symbol k))))

pub same_sent : (cell : CellPlan) (plan : LongPlan) → HasPlan cell plan → (sfn : ℕ) → ◌≡◌ {A = ℕ → Cpx} (sent_by None long_port cell sfn) (long_sent plan sfn)
same_sent cell plan has sfn =
    let sequence : Elements → ℕ → Cpx = λ grid i. prefix_sent extended grid sfn i in
    ap sequence (same_elements cell plan has)

-- ---- a cell with these fields

-- a cell's plan with this identity and these MIB fields
abbrev pub with_plan : CellPlan → LongPlan → CellPlan
with_plan rest plan = record rest {
  identity = plan.id;
  duration = plan.mib.duration;
  resource = plan.mib.resource;
  spare = plan.mib.spare;
}

-- recording 0's plan with these fields
abbrev pub cell_with : LongPlan → CellPlan
cell_with plan = with_plan (plan_of_number 0) plan

pub has_plan : (rest : CellPlan) (plan : LongPlan) → HasPlan (with_plan rest plan) plan
has_plan rest plan = record { identity = refl; duration = refl; resource = refl; spare = refl }

pub sendable : (plan : LongPlan) → IsKnownLong plan → IsSendable (cell_with plan)
unfolding column_2
sendable plan known =
    let base = is_sendable 0 in
    record {
      valid = base.valid;
      identity = known.identity;
      spare = known.spare;
      cfi = base.cfi;
      assignment = base.assignment;
      column = inl refl;
      mcs = refl;
      enough = whole_is_resolvable (cell_with plan) refl (omega arith);
      duplex = refl;
      extension = refl;
      text = base.text;
    }

pub none_fails : (plan : LongPlan) → IsKnownLong plan → refusal_of LongPrefix (cell_with plan) ≡ None
none_fails plan known = ((accepted_is_sendable_by LongPrefix (cell_with plan)).1 (sendable plan known)).1
