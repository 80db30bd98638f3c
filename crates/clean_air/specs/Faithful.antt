-- A recording is faithful to a cell: each symbol that the receiver reads is the sum of the cell's antenna port signals,
-- each times its gain in units of 2^-14, up to errors whose energy is small compared with the gains. These symbols
-- belong to the slots that the scheme's receiver decodes, or carry a primary signal in its search range or one
-- secondary signal. Other samples are unconstrained. (own; frames, slots and symbols are in TS 36.211 sections 4.1 and
-- 6.2)
use Rattle.std.specs.Prelude.{◌≡◌, ℕ, ◌+◌, ◌*◌, ◌^◌, ◌/◌, ◌%◌, ◌<◌, ◌≤◌, ◌⊎◌, nat_eq, if◌then◌else◌, MatchBool}
use Rattle.std.specs.Prelude.{List, [], ◌∷◌, length, map}
use Rattle.cs_num.specs.declared.Cpx.{Cpx}
use Rattle.cs_num.specs.declared.Sample.{Sample}
use Rattle.cs_num.specs.Complex.{square, value_at}
use Rattle.norms.specs.Magnitudes.{squares_of_four, energy_below}
use Rattle.lte_types.specs.declared.carrier.Carrier.{Carrier}
use Rattle.lte_types.specs.declared.carrier.Carrier.TheVariants.{OnePort}
use Rattle.lte_types.specs.declared.frame.Half.{Half}
use Rattle.lte_types.specs.Carrier.{prefix_of, ports_of, has_control_by}
use Rattle.lte_types.specs.Numerology.{frame_length, half_frame_length, least_samples, subframe_of, useful_length}
use Rattle.lte_types.specs.Numerology.{symbols_of_slot, symbol_step, useful_start}
use Rattle.lte_types.specs.Timing.{IsOffset, number_at_start}
use Rattle.pss_search.specs.Hits.{last_place}
use Rattle.budget.specs.Received.{in_parts, off_by, samples_from}
use Rattle.cell_grid.specs.declared.antenna.Port.{Port}
use Rattle.cell_grid.specs.Ports.{IsPortOf}
use Rattle.cell_plan.specs.declared.cell.CellPlan.{CellPlan}
use Rattle.cell_plan.specs.Gains.{ArePairedBy}
use Rattle.cell_grid.specs.Grid.{Elements}
use Rattle.clean_air.specs.Load.{CarriesPlan, IsLoadedBy, received_from}

-- ---- gains and errors

-- The ports' gains are in units of 2^-14. The gain of port 0 has a magnitude of at least 1, and with four ports neither
-- transmit diversity pair is weak.
pub record ArePartGains (carrier : Carrier) (gains : List Cpx) : Type 0 where
  pub sounds : 2 ^ 28 ≤ square (value_at gains 0)
  pub paired : ArePairedBy carrier gains

-- the maximum error energy of a symbol with two or four ports: 400 or 7 times the gains' summed squares
abbrev pub most_beside : Carrier → List Cpx → ℕ
most_beside carrier gains =
    if nat_eq (ports_of carrier) 2 then 400 * (square (value_at gains 0) + square (value_at gains 1))
    else 7 * squares_of_four (value_at gains)

-- The error energy of a symbol is at most 1800 times the square of port 0's gain and, with several ports, small
-- compared with all gains together.
abbrev pub IsLittle : Carrier → List Cpx → ℕ → Type 0
IsLittle carrier gains energy =
    MatchBool (nat_eq (ports_of carrier) 1) (energy ≤ 1800 * square (value_at gains 0))
    ((energy ≤ most_beside carrier gains) × (energy ≤ 1800 * square (value_at gains 0)))

-- ---- the symbols that the receiver reads

-- the index of the first frame that begins in the recording, and the index of the first even-numbered such frame; frame
-- 0 is being sent at sample 0
abbrev pub first_frame_of : ℕ → ℕ
first_frame_of offset = if nat_eq offset 0 then 0 else 1

abbrev pub even_frame_of : ℕ → ℕ → ℕ
even_frame_of sfn offset = first_frame_of offset + number_at_start sfn offset % 2

-- the slot is slot 1 of the first frame, which carries the broadcast channel (TS 36.211 section 6.6)
abbrev pub IsOfMaster : ℕ → ℕ → ℕ → Type 0
IsOfMaster offset frame slot = (frame ≡ first_frame_of offset) × (slot ≡ 1)

-- the slot is in subframe 5 of the first even-numbered frame, which carries SIB1 (TS 36.331 section 5.2.1.2), if the
-- transmission scheme sends SIB1
abbrev pub IsOfSystem : Carrier → ℕ → ℕ → ℕ → ℕ → Type 0
IsOfSystem carrier sfn offset frame slot =
    MatchBool (has_control_by carrier) ((frame ≡ even_frame_of sfn offset) × (slot / 2 ≡ 5)) ⊥

-- The symbol is the last of slot 0 or 10, which carries the primary signal (TS 36.211 section 6.11.1). It begins at
-- most 9 samples before the first position that leaves room for the secondary signal in front, and at most 9 samples
-- after the PSS search range.
pub record IsOfPrimary (carrier : Carrier) (slot symbol start : ℕ) : Type 0 where
  pub half : Half
  pub slot_is : slot ≡ 2 * subframe_of half
  pub last : symbol + 1 ≡ symbols_of_slot (prefix_of carrier)
  pub from_first : symbol_step (prefix_of carrier) ≤ start + 9
  pub to_last : start ≤ last_place + 9

-- The symbol carries the secondary signal (TS 36.211 section 6.11.2), and the following primary signal begins in the
-- later half-frame of the PSS search range. One of the two secondary signals in a frame is enough.
pub record IsOfSecondary (carrier : Carrier) (slot symbol start : ℕ) : Type 0 where
  pub half : Half
  pub slot_is : slot ≡ 2 * subframe_of half
  pub before : symbol + 2 ≡ symbols_of_slot (prefix_of carrier)
  pub from_middle : last_place < start + symbol_step (prefix_of carrier) + half_frame_length
  pub to_last : start + symbol_step (prefix_of carrier) ≤ last_place

-- the receiver reads the symbol whose useful part begins at sample `start`: the symbol belongs to a slot that the
-- receiver decodes, or carries a synchronisation signal
abbrev pub IsLookedAt : Carrier → ℕ → ℕ → ℕ → ℕ → ℕ → ℕ → Type 0
IsLookedAt carrier sfn offset frame slot symbol start =
    IsOfMaster offset frame slot ⊎ (IsOfSystem carrier sfn offset frame slot
    ⊎ (IsOfPrimary carrier slot symbol start ⊎ IsOfSecondary carrier slot symbol start))

-- ---- recordings

-- the energy, in units of 2^-28, of the difference between the 128 samples from `start` and all ports' signals, added
-- after multiplication by their gains
abbrev pub errors_from : Carrier → List Sample → (Port → Elements) → ℕ → ℕ → List Cpx → ℕ → ℕ
errors_from carrier recording grids sfn offset gains start =
    energy_below useful_length
    (off_by (samples_from recording start) (λ n. received_from carrier grids sfn offset gains (start + n)))

-- A recording is faithful to elements of each port that carry the plan, from frame number `sfn`: in each symbol that
-- the receiver reads, whose useful part begins at sample `start`, the error energy is small compared with the gains.
pub record IsFaithfulBy (carrier : Carrier) (recording : List Sample) (plan : CellPlan) (grids : Port → Elements)
    (sfn offset : ℕ) (gains : List Cpx) : Type 0 where
  pub number : sfn ≤ 1023
  pub within : IsOffset offset
  pub carries : (port : Port) → IsPortOf carrier port → CarriesPlan port plan (grids port)
  pub gains_are : ArePartGains carrier gains
  pub near : (frame slot symbol start : ℕ) → slot < 20 → symbol < symbols_of_slot (prefix_of carrier) →
      start + offset ≡ frame_length * frame + useful_start (prefix_of carrier) 0 slot symbol →
      IsLookedAt carrier sfn offset frame slot symbol start →
      IsLittle carrier gains (errors_from carrier recording grids sfn offset gains start)

-- a recording is faithful to elements that carry the plan, sent by a cell with one port
abbrev pub IsFaithful : List Sample → CellPlan → Elements → ℕ → ℕ → Cpx → Type 0
IsFaithful recording plan grid sfn offset gain =
    IsFaithfulBy OnePort recording plan (λ port. grid) sfn offset (gain ∷ [])

-- ---- clean recordings

-- a law: in a recording that is clean for a cell, with component errors of at most `eps`, 128 samples have an error
-- energy up to 2^36 `eps`^2, in units of 2^-28
abbrev pub LoadedHasLittleErrors : Type 0
LoadedHasLittleErrors =
    (carrier : Carrier) (recording : List Sample) (plan : CellPlan) (grids : Port → Elements) (sfn offset : ℕ)
    (gains : List Cpx) (eps start : ℕ) → IsLoadedBy carrier recording plan grids sfn offset gains eps →
    start + useful_length ≤ length recording →
    errors_from carrier recording grids sfn offset (map in_parts gains) start ≤ 2 ^ 36 * (eps * eps)

-- a law: a recording that is clean for a cell is faithful to it, whatever else the cell sends
abbrev pub LoadedIsFaithful : Type 0
LoadedIsFaithful =
    (carrier : Carrier) (recording : List Sample) (plan : CellPlan) (grids : Port → Elements) (sfn offset : ℕ)
    (gains : List Cpx) (eps : ℕ) → least_samples ≤ length recording →
    IsLoadedBy carrier recording plan grids sfn offset gains eps →
    IsFaithfulBy carrier recording plan grids sfn offset (map in_parts gains)
