-- A one-port cell that is received through channels has correct soft values in the slots with its MIB and its SIB1.
use Rattle.std.proofs.Common.{◌≡◌, ℕ, ◌+◌, ◌/◌, ◌%◌, ◌<◌, ◌≤◌, List, subst}
use Rattle.cs_num.specs.declared.Cpx.{Cpx}
use Rattle.cs_num.specs.declared.Sample.{Sample}
use Rattle.crs.specs.Reference.{port_0}
use Rattle.lte_types.specs.Timing.{start_of, number_at_start}
use Rattle.soft_bits.specs.Soft.{SeenSlot, seen_at, soft_values}
use Rattle.explain.specs.Frame.{frame_at, seen_slot, broadcast_slot}
use Rattle.explain.specs.System.{even_frame}
use Rattle.budget.proofs.Through.{values_speak_through}
use Rattle.cell_grid.specs.Ports.{only_port}
use Rattle.cell_plan.specs.declared.cell.CellPlan.{CellPlan}
use Rattle.cell_grid.specs.Grid.{Elements}
use Rattle.clean_air.specs.Load.{CarriesPlan}
use Rattle.clean_air.specs.Values.{IsSlotHeard}
use Rattle.clean_air.specs.Through.{SlotThroughIsHeard, IsThrough, IsCellThrough}
use Rattle.clean_air.proofs.SentSlots.{slot_grid, first_number}

pub record IsCellHeard (recording : List Sample) (plan : CellPlan) (grid : Elements) (sfn offset : ℕ) : Type 0 where
  pub number : sfn ≤ 1023
  pub within : offset < 19200
  pub carries : CarriesPlan only_port plan grid
  pub master : IsSlotHeard (slot_grid grid (number_at_start sfn offset) 1) (broadcast_slot recording plan.identity (start_of offset) 0)
  pub system : (slot : ℕ) → slot / 2 ≡ 5 →
      IsSlotHeard (slot_grid grid ((number_at_start sfn offset + even_frame (number_at_start sfn offset) 0) % 1024) slot)
      (seen_slot recording (frame_at (start_of offset) (even_frame (number_at_start sfn offset) 0)) slot plan.identity)

pub slot_through_is_heard : SlotThroughIsHeard
unfolding soft_values
slot_through_is_heard bounds n channel grids slot is symbol k first second few inside same =
    let both = values_speak_through 1 n bounds port_0 channel slot symbol k first second (seen_at slot symbol k) is.room is.pilots
    (is.read symbol k first second few inside same) (is.seen symbol k first second few inside same) in
    record { re = both.re; im = both.im }

through_slot_heard : (grids : ℕ → ℕ → Cpx) (slot : SeenSlot) → IsThrough grids slot → IsSlotHeard grids slot
through_slot_heard grids slot is = slot_through_is_heard is.bounds is.square is.channel grids slot is.through

pub through_is_heard : (recording : List Sample) (plan : CellPlan) (grid : Elements) (sfn offset : ℕ) → IsCellThrough recording plan grid sfn offset →
    IsCellHeard recording plan grid sfn offset
through_is_heard recording plan grid sfn offset is = record {
  number = is.number;
  within = is.within;
  carries = is.carries;
  master = subst (λ m. IsSlotHeard (slot_grid grid m 1) (broadcast_slot recording plan.identity (start_of offset) 0)) (first_number sfn offset is.number)
      (through_slot_heard (slot_grid grid ((number_at_start sfn offset + 0) % 1024) 1) (broadcast_slot recording plan.identity (start_of offset) 0) is.master);
  system = λ slot five. through_slot_heard (slot_grid grid ((number_at_start sfn offset + even_frame (number_at_start sfn offset) 0) % 1024) slot)
      (seen_slot recording (frame_at (start_of offset) (even_frame (number_at_start sfn offset) 0)) slot plan.identity) (is.system slot five);
}
