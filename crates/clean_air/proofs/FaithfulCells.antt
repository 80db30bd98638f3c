-- A cell of one port to which a recording is faithful is received through channels, with one gain in each slot.
use Rattle.std.proofs.Common.{ℕ, ◌+◌, ◌%◌, ◌^◌, ◌<◌, ◌≤◌, ◌⊎◌, List, inl, inr, arith, refl, subst}
use Rattle.cs_num.specs.declared.Cpx.{Cpx}
use Rattle.cs_num.specs.declared.Sample.{Sample}
use Rattle.cs_num.specs.Complex.{square}
use Rattle.crs.specs.Reference.{port_0}
use Rattle.lte_types.specs.declared.carrier.Carrier.TheVariants.{OnePort}
use Rattle.lte_types.specs.Numerology.{normal, useful_start}
use Rattle.lte_types.specs.Timing.{start_of, number_at_start}
use Rattle.soft_bits.specs.Soft.{SeenSlot, seen_at}
use Rattle.explain.specs.Frame.{frame_at, seen_slot}
use Rattle.explain.specs.System.{even_frame}
use Rattle.budget.specs.Received.{IsSeenAs}
use Rattle.budget.specs.Through.{level, level_bounds}
use Rattle.budget.proofs.Seen.{amplitude_is_seen_in_recording}
use Rattle.budget.proofs.Through.{one_gain_leaves_room, one_gain_is_through, one_gain_is_read}
use Rattle.cell_grid.specs.declared.antenna.Port.{Port}
use Rattle.cell_grid.specs.Ports.{only_port}
use Rattle.cell_plan.specs.declared.cell.CellPlan.{CellPlan}
use Rattle.cell_grid.specs.Grid.{Elements}
use Rattle.clean_air.specs.Faithful.{IsOfMaster, IsOfSystem, IsFaithfulBy, first_frame_of}
use Rattle.clean_air.specs.Values.{ArePatternSeen}
use Rattle.clean_air.specs.Through.{IsSlotThrough, IsFrameSlotThrough, ReceivedSlotIsThrough, FaithfulIsThrough}
use Rattle.clean_air.proofs.SoftValues.{pattern_place_seen, pattern_pilots_seen}
use Rattle.clean_air.proofs.SentSlots.{slot_grid, each_slot_received}
use Rattle.clean_air.proofs.Signals.{signals_shown}

-- a slot whose resource elements are observed with one gain is received through it as a channel
pub seen_slot_is_through : (gain : Cpx) (grids : ℕ → ℕ → Cpx) (slot : SeenSlot) → ArePatternSeen 2316 port_0 gain slot →
    ((symbol k : ℕ) → symbol < 7 → k < 72 → IsSeenAs 2316 gain (grids symbol k) (seen_at slot symbol k)) → IsSlotThrough level_bounds (square gain) (level gain) grids slot
seen_slot_is_through gain grids slot pilots places = record {
  room = one_gain_leaves_room;
  pilots = one_gain_is_through 2316 port_0 gain slot (some (square gain) pilots.sounds) pilots.pilot;
  read = λ symbol k first second few inside same. one_gain_is_read 2316 port_0 gain slot symbol k;
  seen = λ symbol k first second few inside same. subst (λ (z : Cpx). IsSeenAs 2316 gain z (seen_at slot symbol k)) same (places symbol k few inside);
}
  where
    some : (n : ℕ) → 2 ^ 28 ≤ n → 1 ≤ n
    some n h = omega (arith, h)

pub received_slot_is_through : ReceivedSlotIsThrough
received_slot_is_through recording starts grids slot is =
    seen_slot_is_through is.gain grids slot (pattern_pilots_seen 1800 2316 amplitude_is_seen_in_recording port_0 7 recording starts grids slot is (omega arith))
    (pattern_place_seen 1800 2316 amplitude_is_seen_in_recording port_0 7 recording starts grids slot is)

module _ (recording : List Sample) (plan : CellPlan) (grids : Port → Elements) (sfn offset : ℕ) (gains : List Cpx) (faithful : IsFaithfulBy OnePort recording plan grids sfn offset gains) where
  -- each slot that is read is received through a channel
  slot_through : (j slot : ℕ) → slot < 20 → IsOfMaster offset (first_frame_of offset + j) slot ⊎ IsOfSystem OnePort sfn offset (first_frame_of offset + j) slot →
      IsFrameSlotThrough recording plan.identity (grids only_port) sfn offset j slot
  slot_through j slot few read =
      let received = each_slot_received recording plan grids sfn offset gains faithful j slot few (λ l inside. elim read [ inl master ↦ inl master | inr system ↦ inr (inl system) ]) in
      record {
        bounds = level_bounds;
        square = square received.gain;
        channel = level received.gain;
        through = received_slot_is_through recording (useful_start normal (frame_at (start_of offset) j) slot) (slot_grid (grids only_port) ((number_at_start sfn offset + j) % 1024) slot)
            (seen_slot recording (frame_at (start_of offset) j) slot plan.identity) received;
      }

pub faithful_is_through : FaithfulIsThrough
faithful_is_through recording plan grids sfn offset gains known faithful = record {
  number = faithful.number;
  within = faithful.within;
  carries = faithful.carries only_port (refl, omega arith);
  signals = signals_shown OnePort recording plan grids sfn offset gains faithful known;
  master = slot_through recording plan grids sfn offset gains faithful 0 1 (omega arith) (inl (omega arith, refl));
  system = λ slot five. slot_through recording plan grids sfn offset gains faithful (even_frame (number_at_start sfn offset) 0) slot (omega (arith, five)) (inr (omega arith, five));
}
