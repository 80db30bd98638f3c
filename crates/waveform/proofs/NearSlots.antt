-- Slots of a recording near a cell's waveform: each resource element of a slot that is decoded is observed as received
-- from all ports.
use Rattle.std.proofs.Common.{◌≡◌, ℕ, ◌+◌, ◌*◌, ◌^◌, ◌/◌, ◌%◌, ◌<◌, ◌≤◌, ◌⊎◌, arith, refl, ap, subst, List}
use Rattle.cs_num.specs.declared.Cpx.{Cpx}
use Rattle.cs_num.specs.declared.Sample.{Sample}
use Rattle.cs_num.specs.Complex.{times, value_at}
use Rattle.cs_num.proofs.Sums.{complex_sum_below_same}
use Rattle.norms.specs.Magnitudes.{energy_below}
use Rattle.lte_types.specs.declared.carrier.Carrier.{Carrier}
use Rattle.lte_types.specs.declared.numerology.Prefix.{Prefix}
use Rattle.lte_types.specs.Carrier.{prefix_of, ports_of}
use Rattle.lte_types.specs.Numerology.{symbols_of_slot, useful_start}
use Rattle.lte_types.specs.Timing.{start_of, number_at_start}
use Rattle.observe.specs.Seen.{seen}
use Rattle.explain.specs.Frame.{frame_at}
use Rattle.budget.specs.Received.{IsSeenNear, IsSeenAs, IsSeenBy, samples_from}
use Rattle.cell_grid.specs.declared.antenna.Port.{Port}
use Rattle.cell_grid.specs.Grid.{Elements}
use Rattle.cell_grid.specs.Ports.{port_by}
use Rattle.cell_plan.specs.declared.cell.CellPlan.{CellPlan}
use Rattle.clean_air.specs.Faithful.{IsOfMaster, IsOfSystem, first_frame_of}
use Rattle.clean_air.proofs.SentSlots.{frame_is}
use Rattle.waveform.specs.Waveform.{slot_quota, symbol_elements, IsNearWaveform}
use Rattle.waveform.specs.WaveformLaws.{WaveformIsSeen}
use Rattle.waveform.proofs.Sums.{received_of_one, energy_of_one}

-- amplitudes that are equal at all ports are observed as equal
pub seen_same : (ports most : ℕ) (gains a b : ℕ → Cpx) (z : Cpx) → ((p : ℕ) → p < ports → a p ≡ b p) → IsSeenBy ports most gains a z → IsSeenBy ports most gains b z
seen_same ports most gains a b z same is =
    subst (λ (sum : Cpx). IsSeenNear most (energy_below ports gains) sum z)
    (complex_sum_below_same ports (λ p. times (gains p) (a p)) (λ p. times (gains p) (b p)) (λ p l. ap (times (gains p)) (same p l))) is

-- the amplitude of one port
pub seen_of_one : (most : ℕ) (gains a : ℕ → Cpx) (z : Cpx) → IsSeenBy 1 most gains a z → IsSeenAs most (gains 0) (a 0) z
seen_of_one most gains a z is =
    subst (λ (n : ℕ). IsSeenNear most n (times (gains 0) (a 0)) z) (energy_of_one gains) (subst (λ (sum : Cpx). IsSeenNear most (energy_below 1 gains) sum z) (received_of_one gains a) is)

module _ (carrier : Carrier) (most : ℕ) (law : WaveformIsSeen (ports_of carrier) (slot_quota (ports_of carrier)) most) (recording : List Sample) (plan : CellPlan) (grids : Port → Elements) (sfn offset : ℕ)
    (gains : List Cpx) (near : IsNearWaveform carrier recording plan grids sfn offset gains) (sounds : 2 ^ 28 ≤ energy_below (ports_of carrier) (value_at gains)) where
  abbrev prefix : Prefix
  prefix = prefix_of carrier

  abbrev number : ℕ → ℕ
  number j = (number_at_start sfn offset + j) % 1024

  abbrev start : ℕ → ℕ → ℕ → ℕ
  start j slot symbol = useful_start prefix (frame_at (start_of offset) j) slot symbol

  -- a resource element of a decoded slot is observed
  pub element_seen : (j slot symbol k : ℕ) → slot < 20 → symbol < symbols_of_slot prefix → k < 72 →
      IsOfMaster offset (first_frame_of offset + j) slot ⊎ IsOfSystem carrier sfn offset (first_frame_of offset + j) slot →
      IsSeenBy (ports_of carrier) most (value_at gains) (λ p. symbol_elements prefix (grids (port_by carrier p)) (number j) slot symbol k) (seen recording (start j slot symbol) k)
  unfolding seen
  element_seen j slot symbol k few row inside read =
      let frame = frame_is sfn offset j near.number near.within in
      let place = frame.place in
      subst (λ (n : ℕ). IsSeenBy (ports_of carrier) most (value_at gains) (λ p. symbol_elements prefix (grids (port_by carrier p)) n slot symbol k) (seen recording (start j slot symbol) k)) frame.number
      (law (value_at gains) (λ p. symbol_elements prefix (grids (port_by carrier p)) ((sfn + (first_frame_of offset + j)) % 1024) slot symbol) (samples_from recording (start j slot symbol)) k
      (λ p l. (near.carries (port_by carrier p) (refl, l)).small ((sfn + (first_frame_of offset + j)) % 1024) (slot / 2) (symbols_of_slot prefix * (slot % 2) + symbol)) sounds
      (near.slots (first_frame_of offset + j) slot symbol (start j slot symbol) few row (omega (arith, place)) read) inside)
