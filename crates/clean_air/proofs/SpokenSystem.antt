-- Values of subframe 5 that have the signs of a plan's bits: they are read with its indicator and its grant, and say
-- its fields.
use Rattle.std.proofs.Common.{◌≡◌, ℕ, ◌+◌, ◌%◌, ◌<◌, ◌≤◌, inl, true, List, length, Ok, refl, arith}
use Rattle.std.proofs.lemmas.Bool.{leb-true, false≢true}
use Rattle.cs_num.specs.declared.Sample.{Sample}
use Rattle.lte_types.specs.declared.carrier.Carrier.{Carrier}
use Rattle.lte_types.specs.declared.carrier.Carrier.TheVariants.{OnePort, TwoPorts, LongPrefix, FourPorts}
use Rattle.lte_types.specs.Carrier.{ports_of, has_control_by}
use Rattle.lte_types.specs.CellPlace.{Place}
use Rattle.lte_types.specs.Timing.{number_at_start}
use Rattle.turbo_code.specs.declared.rows.Row.{Row}
use Rattle.erasure.specs.Known.{resolvable, sent_of}
use Rattle.erasure.proofs.Whole.{whole_block_is_resolvable}
use Rattle.soft_bits.specs.Places.{Valuing}
use Rattle.sib1_reader.specs.Subframe.{Subframe}
use Rattle.sib1_reader.specs.Block.{BlockSays}
use Rattle.sib1_reader.specs.Attempt.{Reads}
use Rattle.explain.specs.Receiver.{subframes_by}
use Rattle.explain.specs.System.{even_frame, IsSystemWith}
use Rattle.explain.proofs.Information.{decoded_at_first}
use Rattle.cell_plan.specs.declared.cell.CellPlan.{CellPlan}
use Rattle.cell_plan.specs.Plan.{IsSendableBy}
use Rattle.cell_plan.specs.Transport.{checked_size, coded_count, assigned_bits_of, assigned_bits, row_with, shared_word}
use Rattle.cell_plan.proofs.BlockRows.{IsRowOf}
use Rattle.cell_plan.proofs.WholeBlocks.{resolvable_at}
use Rattle.cell_grid.specs.Control.{version_of, grant_of}
use Rattle.cell_grid.proofs.Grants.{version-fits, grant_is}
use Rattle.clean_air.specs.Attempt.{IsReadWith}
use Rattle.clean_air.specs.Heard.{sent_place, master_of_plan, IsSystemHeard, IsSystemHeardBy}
use Rattle.clean_air.specs.Near.{IsSystemRead}
use Rattle.clean_air.proofs.Controls.{four_elements, spoken_grant_is_read}
use Rattle.clean_air.proofs.SentBlock.{sent_mib}
use Rattle.clean_air.proofs.SentFields.{fields_said}

-- what a carrier sends of a block is enough to resolve it
enough_bits : (carrier : Carrier) → has_control_by carrier ≡ true → (plan : CellPlan) → IsSendableBy carrier plan → (number : ℕ) (row : Row) → row ≡ row_with (checked_size plan) → IsRowOf (checked_size plan) row →
    resolvable row (sent_of row.k (version_of number) (assigned_bits_of carrier plan)) (shared_word plan) ≡ true
enough_bits OnePort control plan sendable number row same of = resolvable_at plan (version_of number) (assigned_bits plan) row sendable.enough (version-fits number) same of.size refl
enough_bits TwoPorts control plan sendable number row same of =
    whole_block_is_resolvable row (version_of number) (assigned_bits_of TwoPorts plan) (shared_word plan) (inl of.is) (version-fits number)
    (let enough = leb-true (coded_count plan) (assigned_bits_of TwoPorts plan) sendable.enough in let size = of.size in omega (arith, enough, size))
enough_bits LongPrefix control plan sendable number row same of = absurd (false≢true control)
enough_bits FourPorts control plan sendable number row same of = absurd (false≢true control)

module _ (carrier : Carrier) (control : has_control_by carrier ≡ true) (values : Subframe) (plan : CellPlan) (number : ℕ) (sendable : IsSendableBy carrier plan) (elements : 4 ≤ values.elements plan.cfi)
    (heard : IsSystemHeard carrier values plan number) where
  -- the plan's indicator and grant are read
  pub spoken_grant_read : IsReadWith values plan.cfi (grant_of plan number)
  spoken_grant_read = spoken_grant_is_read values plan.cfi (grant_of plan number) (record {
    range = (let low = sendable.cfi.0 in omega (arith, low), sendable.cfi.1);
    is_grant = grant_is plan sendable number;
    enough = elements;
    of_indicator = heard.indicator;
    of_control = heard.control;
  })

  -- and its block says its fields
  says_fields : BlockSays (values.shared plan.cfi plan.start plan.blocks) (grant_of plan number) (Ok plan.sib1)
  says_fields =
      fields_said plan sendable number (assigned_bits_of carrier plan) (values.shared plan.cfi plan.start plan.blocks) heard.block
      (λ row same of. enough_bits carrier control plan sendable number row same of)

  pub spoken_fields_read : Reads values (Ok plan.sib1)
  spoken_fields_read = spoken_grant_read.reads (Ok plan.sib1) says_fields

-- so a receiver that reads both slots of subframe 5 reads the plan's SIB1
pub heard_system_is_read : (carrier : Carrier) → has_control_by carrier ≡ true → (by : Valuing) (recording : List Sample) (plan : CellPlan) (sfn offset : ℕ) → IsSendableBy carrier plan →
    IsSystemHeardBy carrier (Ok (subframes_by carrier by)) recording plan sfn offset → IsSystemRead (Ok (subframes_by carrier by)) recording plan (sent_place plan.identity offset) (number_at_start sfn offset)
heard_system_is_read carrier control by recording plan sfn offset sendable heard =
    let first : ℕ = number_at_start sfn offset in
    let j : ℕ = even_frame first 0 in
    let elements = four_elements plan.identity plan.cfi plan.duration plan.resource sendable.cfi.0 sendable.cfi.1 in
    spoken_fields_read carrier control (subframes_by carrier by recording (sent_place plan.identity offset) j plan.duration plan.resource) plan ((first + j) % 1024) sendable elements heard

-- and SIB1 that is read is the receiver's answer
pub read_system_is_answer : (carrier : Carrier) (by : Valuing) (recording : List Sample) (plan : CellPlan) (place : Place) (number : ℕ) → 57600 ≤ length recording → place.start < 19200 →
    (sendable : IsSendableBy carrier plan) → IsSystemRead (Ok (subframes_by carrier by)) recording plan place number →
    IsSystemWith carrier (Ok (subframes_by carrier by)) recording place number (ports_of carrier) (sent_mib (master_of_plan carrier plan) sendable.spare number) (Ok plan.sib1)
read_system_is_answer carrier by recording plan place number long early sendable read =
    decoded_at_first carrier (subframes_by carrier by) recording place number (sent_mib (master_of_plan carrier plan) sendable.spare number) plan.sib1 long early refl read
