-- Cells that are received through channels: each slot that is read has its own channel, possibly with a different gain
-- at each resource element, and the synchronisation signals have their own gains. (own; frames, slots and symbols are
-- in TS 36.211 sections 4.1 and 6.2)
use Rattle.std.specs.Prelude.{◌≡◌, ℕ, ◌+◌, ◌*◌, ◌/◌, ◌%◌, ◌<◌, ◌≤◌, Bool, not, ◌&&◌, nat_eq, MatchBool, List}
use Rattle.cs_num.specs.declared.Cpx.{Cpx}
use Rattle.cs_num.specs.declared.Sample.{Sample}
use Rattle.cs_num.specs.Complex.{times, square}
use Rattle.crs.specs.Qpsk.{point}
use Rattle.crs.specs.Reference.{port_0}
use Rattle.lte_types.specs.declared.carrier.Carrier.{Carrier}
use Rattle.lte_types.specs.declared.carrier.Carrier.TheVariants.{OnePort}
use Rattle.lte_types.specs.declared.frame.Half.{Half}
use Rattle.lte_types.specs.Carrier.{prefix_of, ports_of}
use Rattle.lte_types.specs.Numerology.{frame_length, half_frame_length, symbol_step, primary_start, is_extended, subcarriers}
use Rattle.lte_types.specs.Timing.{IsOffset, start_of, number_at_start}
use Rattle.pss_search.specs.Hits.{last_place}
use Rattle.soft_bits.specs.Soft.{SeenSlot, seen_at}
use Rattle.explain.specs.Frame.{frame_at, seen_slot}
use Rattle.explain.specs.System.{even_frame}
use Rattle.budget.specs.Received.{IsSeenNear}
use Rattle.budget.specs.Peak.{StandsOutBy}
use Rattle.budget.specs.SignalPaths.{AreSignalsThrough}
use Rattle.budget.specs.Through.{Channel, Bounds, ArePilotsThrough, IsReadThrough, LeaveRoom}
use Rattle.budget.specs.Through.{level, level_bounds}
use Rattle.cell_grid.specs.declared.antenna.Port.{Port}
use Rattle.cell_grid.specs.Ports.{only_port}
use Rattle.cell_plan.specs.declared.cell.CellPlan.{CellPlan}
use Rattle.cell_grid.specs.Grid.{Elements}
use Rattle.clean_air.specs.Load.{CarriesPlan}
use Rattle.clean_air.specs.Values.{IsSlotReceived, IsSlotHeard}
use Rattle.clean_air.specs.Faithful.{IsFaithfulBy}

-- ---- the synchronisation signals

-- A primary signal of the cell begins at sample `t` of a recording whose first sample is a frame's sample `offset` (TS
-- 36.211 section 6.11.1). `frame` counts the frames before the signal's own, from the one that is being sent at sample
-- 0.
pub record IsPrimaryPlace (offset t : ℕ) (half : Half) : Type 0 where
  pub frame : ℕ
  pub place : t + offset ≡ frame_length * frame + primary_start half

-- Each primary signal of a cell stands out if it begins at most 9 samples before the first position that leaves room
-- for the secondary signal in front, and at most 9 samples after the PSS search range: its normalised metric is at
-- least 0.25, and greater than at each sample at distance 1 to 9 that has energy. This is the rule of PSS detections
-- without ties, and needs no gain.
abbrev pub SignalsStandOut : Carrier → List Sample → ℕ → ℕ → Type 0
SignalsStandOut carrier recording identity offset =
    (t : ℕ) (half : Half) → IsPrimaryPlace offset t half → symbol_step (prefix_of carrier) ≤ t + 9 →
    t ≤ last_place + 9 → StandsOutBy 250 recording t (identity % 3)

-- The synchronisation signals of a cell appear in a recording. `primary`: near the PSS search range, each primary
-- signal stands out. `both`: for a primary signal in the later half-frame of the range, both signals are received
-- through a channel, which may differ from one occurrence to the next (TS 36.211 section 6.11.2).
pub record ShowsSignals (carrier : Carrier) (recording : List Sample) (identity offset : ℕ) : Type 0 where
  pub primary : SignalsStandOut carrier recording identity offset
  pub both : (t : ℕ) (half : Half) → IsPrimaryPlace offset t half → last_place < t + half_frame_length →
      t ≤ last_place → AreSignalsThrough (prefix_of carrier) recording t (identity / 3) (identity % 3) half

-- ---- slots

-- the elements of a slot of the frame numbered `number`, by symbol `l` and subcarrier
abbrev pub slot_elements : Elements → ℕ → ℕ → ℕ → ℕ → Cpx
slot_elements grid number slot l = grid number (slot / 2) (7 * (slot % 2) + l)

-- A slot of port 0 is received through a channel, with bounds relative to a magnitude whose square is `n`. The slot's
-- pilots and every resource element with a QPSK symbol, whether the receiver uses it or not, are demodulated through
-- the channel; the channel is strong enough there to decode them, and the bounds leave room for soft values of
-- magnitude 1.
pub record IsSlotThrough (bounds : Bounds) (n : ℕ) (channel : Channel) (grids : ℕ → ℕ → Cpx) (slot : SeenSlot) :
    Type 0 where
  pub room : LeaveRoom 1 bounds
  pub pilots : ArePilotsThrough bounds n port_0 channel slot
  pub read : (symbol k : ℕ) (first second : Bool) → symbol < 7 → k < subcarriers → grids symbol k ≡ point first second →
      IsReadThrough bounds n port_0 channel slot symbol k
  pub seen : (symbol k : ℕ) (first second : Bool) → symbol < 7 → k < subcarriers → grids symbol k ≡ point first second →
      IsSeenNear bounds.most n (times (channel symbol k) (point first second)) (seen_at slot symbol k)

-- a law: a slot that is received through a channel has correct soft values, each with the sign of its bit
abbrev pub SlotThroughIsHeard : Type 0
SlotThroughIsHeard =
    (bounds : Bounds) (n : ℕ) (channel : Channel) (grids : ℕ → ℕ → Cpx) (slot : SeenSlot) →
    IsSlotThrough bounds n channel grids slot → IsSlotHeard grids slot

-- a law: a slot that is received with one gain is received through the channel with that gain everywhere
abbrev pub ReceivedSlotIsThrough : Type 0
ReceivedSlotIsThrough =
    (recording : List Sample) (starts : ℕ → ℕ) (grids : ℕ → ℕ → Cpx) (slot : SeenSlot)
    (received : IsSlotReceived recording starts grids slot) →
    IsSlotThrough level_bounds (square received.gain) (level received.gain) grids slot

-- A slot is received through some channel, with some bounds relative to a magnitude whose square is `square`.
pub record IsThrough (grids : ℕ → ℕ → Cpx) (slot : SeenSlot) : Type 0 where
  pub bounds : Bounds
  pub square : ℕ
  pub channel : Channel
  pub through : IsSlotThrough bounds square channel grids slot

-- ---- cells

-- a slot of frame `j`, counted from the first whole frame of the recording, is received through a channel, with the
-- elements `grid` that the cell's only port sends in the slot
abbrev pub IsFrameSlotThrough : List Sample → ℕ → Elements → ℕ → ℕ → ℕ → ℕ → Type 0
IsFrameSlotThrough recording identity grid sfn offset j slot =
    IsThrough (slot_elements grid ((number_at_start sfn offset + j) % 1024) slot)
    (seen_slot recording (frame_at (start_of offset) j) slot identity)

-- A cell with one port, whose elements carry the plan, is received from frame number `sfn`. The recording contains the
-- cell's synchronisation signals, and three slots are received, each through its own channel: in the first whole frame
-- slot 1, with the broadcast channel (TS 36.211 section 6.6), and in the first even-numbered whole frame both slots of
-- subframe 5, with SIB1 (TS 36.331 section 5.2.1.2).
pub record IsCellThrough (recording : List Sample) (plan : CellPlan) (grid : Elements) (sfn offset : ℕ) : Type 0 where
  pub number : sfn ≤ 1023
  pub within : IsOffset offset
  pub carries : CarriesPlan only_port plan grid
  pub signals : ShowsSignals OnePort recording plan.identity offset
  pub master : IsFrameSlotThrough recording plan.identity grid sfn offset 0 1
  pub system : (slot : ℕ) → slot / 2 ≡ 5 →
      IsFrameSlotThrough recording plan.identity grid sfn offset (even_frame (number_at_start sfn offset) 0) slot

-- whether the laws on channels cover transmission scheme `carrier`: one port and the normal cyclic prefix
abbrev pub is_seen_through : Carrier → Bool
is_seen_through carrier = nat_eq (ports_of carrier) 1 && not (is_extended (prefix_of carrier))

-- a cell is received through channels, and has a transmission scheme that the laws on channels cover
abbrev pub IsSeenThroughBy : Carrier → List Sample → CellPlan → (Port → Elements) → ℕ → ℕ → Type 0
IsSeenThroughBy carrier recording plan grids sfn offset =
    MatchBool (is_seen_through carrier) (IsCellThrough recording plan (grids only_port) sfn offset) ⊥

-- a law: a cell with one port to which the recording is faithful is received through channels
abbrev pub FaithfulIsThrough : Type 0
FaithfulIsThrough =
    (recording : List Sample) (plan : CellPlan) (grids : Port → Elements) (sfn offset : ℕ) (gains : List Cpx) →
    plan.identity ≤ 503 → IsFaithfulBy OnePort recording plan grids sfn offset gains →
    IsSeenThroughBy OnePort recording plan grids sfn offset
