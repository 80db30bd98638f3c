-- The pilots of the first frame's broadcast slot, in a recording that is faithful to a cell, are received with the
-- gain.
use Rattle.std.proofs.Common.{ℕ, ◌+◌, ◌%◌, arith, inl, refl, List, [], ◌∷◌}
use Rattle.cs_num.specs.declared.Cpx.{Cpx}
use Rattle.cs_num.specs.declared.Sample.{Sample}
use Rattle.crs.specs.Reference.{port_0}
use Rattle.lte_types.specs.declared.carrier.Carrier.TheVariants.{OnePort}
use Rattle.lte_types.specs.Numerology.{normal, useful_start}
use Rattle.lte_types.specs.Timing.{start_of, number_at_start}
use Rattle.explain.specs.Frame.{frame_at, broadcast_slot}
use Rattle.cell_plan.specs.declared.cell.CellPlan.{CellPlan}
use Rattle.cell_grid.specs.Grid.{Elements}
use Rattle.budget.proofs.Seen.{amplitude_is_seen_in_recording}
use Rattle.clean_air.specs.Faithful.{IsLookedAt, first_frame_of, IsFaithful}
use Rattle.clean_air.specs.Values.{ArePilotsSeen}
use Rattle.clean_air.proofs.SentSlots.{slot_grid, frame_is, symbol_with_errors, each_slot_received}
use Rattle.clean_air.proofs.SoftValues.{pattern_pilots_seen}

module _ (recording : List Sample) (plan : CellPlan) (grid : Elements) (sfn offset : ℕ) (gain : Cpx) (faithful : IsFaithful recording plan grid sfn offset gain) where
  abbrev starts : ℕ → ℕ
  starts = useful_start normal (frame_at (start_of offset) 0) 1

  -- the receiver reads each symbol of the slot
  looked : (l : ℕ) → IsLookedAt OnePort sfn offset (first_frame_of offset + 0) 1 l (starts l)
  looked l = inl (omega arith, refl)

  pub pilots_seen : ArePilotsSeen 2316 gain (broadcast_slot recording plan.identity (start_of offset) 0)
  pilots_seen =
      let slot = each_slot_received recording plan (λ port. grid) sfn offset (gain ∷ []) faithful 0 1 (omega arith) (λ l inside. looked l) in
      let frame = frame_is sfn offset 0 faithful.number faithful.within in
      pattern_pilots_seen 1800 2316 amplitude_is_seen_in_recording port_0 7 recording starts (slot_grid grid ((number_at_start sfn offset + 0) % 1024) 1)
      (broadcast_slot recording plan.identity (start_of offset) 0)
      (record {
        gain = gain;
        seen = slot.seen;
        amplitudes = slot.amplitudes;
        received = λ l inside. symbol_with_errors 1800 recording (λ port. grid) sfn offset (gain ∷ []) faithful.number faithful.within faithful.gains_are.sounds 0 1 l (omega arith) inside
            (faithful.near (first_frame_of offset + 0) 1 l (starts l) (omega arith) inside (omega (arith, frame.place)) (looked l));
        references = slot.references;
      })
      (omega arith)
