-- SIB1 of a one-port cell whose slots have correct soft values, whatever else the cell sends: the first even-numbered
-- frame is decoded to the plan's fields.
use Rattle.std.proofs.Common.{◌≡◌, ℕ, ◌+◌, ◌%◌, ◌≤◌, List, Ok, refl, ap, subst, arith}
use Rattle.std.proofs.Math.Path.{fun_ext}
use Rattle.cs_num.specs.declared.Sample.{Sample}
use Rattle.lte_types.specs.Timing.{start_of, number_at_start}
use Rattle.soft_bits.specs.Soft.{SeenSlot}
use Rattle.grid_map.specs.Control.{pcfich_places}
use Rattle.sib1_reader.specs.Subframe.{one_port}
use Rattle.sib1_reader.specs.Attempt.{Reads}
use Rattle.pdsch.specs.Values.{shared_values}
use Rattle.cell_grid.specs.Ports.{only_port}
use Rattle.cell_plan.specs.declared.cell.CellPlan.{CellPlan}
use Rattle.cell_plan.specs.Plan.{IsSendable}
use Rattle.lte_types.specs.declared.carrier.Carrier.TheVariants.{OnePort}
use Rattle.cell_grid.specs.Control.{grant_of, control_word, indicator_point, control_point}
use Rattle.cell_grid.specs.Shared.{shared_places, shared_bit, shared_point}
use Rattle.cell_grid.specs.Grid.{Elements}
use Rattle.cell_grid.proofs.SystemPlaces.{indicator_indexed, control_indexed, assigned_bits_are}
use Rattle.clean_air.proofs.Carrying.{indicator_carried, control_carried, shared_carried}
use Rattle.cell_grid.proofs.Grants.{grant_is}
use Rattle.explain.specs.Frame.{frame_at, seen_slot}
use Rattle.explain.specs.System.{even_frame}
use Rattle.explain.proofs.Information.{even_number}
use Rattle.clean_air.specs.Values.{IsSlotHeard}
use Rattle.clean_air.specs.Subframe.{AreSlotsHeard, CarryInSubframe, shared_scrambled}
use Rattle.clean_air.specs.Indicator.{indicator_scrambled}
use Rattle.clean_air.specs.Grant.{grant_places, grant_scrambled}
use Rattle.clean_air.specs.Attempt.{IsReadWith}
use Rattle.clean_air.specs.Carried.{AreHeard}
use Rattle.clean_air.specs.Heard.{IsSystemHeard}
use Rattle.clean_air.proofs.Controls.{four_elements, carried_indicator_is_decoded, carried_grant_is_decoded}
use Rattle.clean_air.proofs.Placed.{pcfich_placed, candidate_placed}
use Rattle.clean_air.proofs.SpokenSystem.{spoken_grant_read, spoken_fields_read}
use Rattle.clean_air.proofs.Subframes.{carried_in_slot, carried_blocks_are_heard}
use Rattle.clean_air.proofs.SentSlots.{slot_grid}
use Rattle.clean_air.proofs.HeardCells.{IsCellHeard}

module _ (recording : List Sample) (plan : CellPlan) (grid : Elements) (sfn offset : ℕ) (sendable : IsSendable plan) (heard : IsCellHeard recording plan grid sfn offset) where
  -- the first whole even-numbered frame, and its number
  abbrev j : ℕ
  j = even_frame (number_at_start sfn offset) 0

  abbrev number : ℕ
  number = (number_at_start sfn offset + j) % 1024

  even : number % 2 ≡ 0
  even = even_number (number_at_start sfn offset) 0

  -- slot 10 or 11, the slots of subframe 5
  abbrev slot : ℕ → SeenSlot
  slot s = seen_slot recording (frame_at (start_of offset) j) s plan.identity

  -- both slots have correct soft values
  both_heard : AreSlotsHeard (grid number 5) (slot 10) (slot 11)
  both_heard = record {
    first_slot =
        let same : slot_grid grid number 10 ≡ grid number 5 = fun_ext (λ l. ap (grid number 5) (omega arith)) in
        subst (λ g. IsSlotHeard g (slot 10)) same (heard.system 10 refl);
    second_slot = heard.system 11 refl;
  }

  -- the slots carry the indicator and the grant
  carries_indicator : CarryInSubframe (grid number 5) (pcfich_places (slot 10).identity) (indicator_scrambled (slot 10) plan.cfi)
  unfolding seen_slot indicator_point
  carries_indicator i inside = indicator_carried only_port plan grid heard.carries sendable refl (omega arith) number even i (let size = (indicator_indexed only_port plan sendable).size in omega (arith, size, inside))

  carries_grant : CarryInSubframe (grid number 5) (grant_places (slot 10) plan.cfi plan.duration plan.resource) (grant_scrambled (slot 10) (grant_of plan number))
  unfolding seen_slot control_point control_word
  carries_grant i inside = control_carried only_port plan grid heard.carries sendable refl (omega arith) number even i (let size = (control_indexed only_port plan sendable).size in omega (arith, size, inside))

  -- the slots carry the transport block
  carries_block : CarryInSubframe (grid number 5) (shared_places plan) (shared_scrambled (slot 10) (shared_bit plan number))
  unfolding seen_slot shared_point
  carries_block i inside = shared_carried only_port plan grid heard.carries sendable refl (omega arith) number even i inside

  -- so the values of subframe 5 have the signs of the plan's bits
  pub system_heard : IsSystemHeard OnePort (one_port (slot 10) (slot 11) plan.duration plan.resource) plan number
  unfolding seen_slot
  system_heard = record {
    indicator = (carried_indicator_is_decoded (grid number 5) (slot 10) plan.cfi (omega (arith, low)) high both_heard.first_slot
        (carried_in_slot (grid number 5) (pcfich_places (slot 10).identity) (indicator_scrambled (slot 10) plan.cfi) (pcfich_placed (slot 10).identity) carries_indicator)).speak;
    control = (carried_grant_is_decoded (grid number 5) (slot 10) plan.cfi plan.duration plan.resource (grant_of plan number) low high (grant_is plan sendable number) both_heard.first_slot
        (carried_in_slot (grid number 5) (grant_places (slot 10) plan.cfi plan.duration plan.resource) (grant_scrambled (slot 10) (grant_of plan number))
        (candidate_placed (slot 10).identity plan.cfi plan.duration plan.resource low high) carries_grant)).speak;
    block = subst (λ count. AreHeard 1 count (shared_bit plan number) (shared_values (slot 10) (slot 11) plan.cfi plan.start plan.blocks)) (assigned_bits_are only_port plan sendable)
        (carried_blocks_are_heard (grid number 5) (slot 10) (slot 11) plan.cfi plan.start plan.blocks (shared_bit plan number) both_heard carries_block);
  }
    where
      low : 2 ≤ plan.cfi
      low = sendable.cfi.0

      high : plan.cfi ≤ 3
      high = sendable.cfi.1

  -- and the frame is read with the plan's indicator and grant
  pub grant_read : IsReadWith (one_port (slot 10) (slot 11) plan.duration plan.resource) plan.cfi (grant_of plan number)
  grant_read = spoken_grant_read OnePort refl (one_port (slot 10) (slot 11) plan.duration plan.resource) plan number sendable
      (four_elements plan.identity plan.cfi plan.duration plan.resource sendable.cfi.0 sendable.cfi.1) system_heard

  -- the frame is decoded to the plan's fields
  pub fields_read : Reads (one_port (slot 10) (slot 11) plan.duration plan.resource) (Ok plan.sib1)
  fields_read = spoken_fields_read OnePort refl (one_port (slot 10) (slot 11) plan.duration plan.resource) plan number sendable
      (four_elements plan.identity plan.cfi plan.duration plan.resource sendable.cfi.0 sendable.cfi.1) system_heard
