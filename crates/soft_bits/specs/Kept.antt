-- The data from which the code builds a slot, and the pilots and energy that it stores with the slot.
use Rattle.std.specs.Prelude.{ℕ, ◌-◌, ◌*◌, ◌^◌, ◌<◌, ◌≤◌, ◌≡◌, List, All, length}
use Rattle.finite.specs.Lists.{values_below}
use Rattle.cs_num.specs.declared.Cpx.{Cpx}
use Rattle.cs_num.specs.Complex.{IsWithin, value_at}
use Rattle.lte_types.specs.declared.carrier.Carrier.{Carrier}
use Rattle.lte_types.specs.Carrier.{ports_of}
use Rattle.soft_bits.specs.declared.seen.Seen.{Seen}
use Rattle.soft_bits.specs.Estimate.{line_by}
use Rattle.soft_bits.specs.Lines.{Line, line_of, line_pilots, ports_energy}
use Rattle.soft_bits.specs.Soft.{SeenSlot, AreSmall}
use Rattle.lte_types.specs.Numerology.{subcarriers}

-- the received slot that the code's value `seen` represents
abbrev pub slot_of : Seen → SeenSlot
slot_of seen = record { symbols = seen.symbols.now; number = seen.number; identity = seen.id }

-- one antenna port's pilots: their distance in subcarriers, the first pilot's subcarrier, and their values
pub record SeenLine : Type 0 where
  pub step : ℕ
  pub first : ℕ
  pub pilots : List Cpx

-- the pilots of `line` in a slot, as the code stores them
abbrev pub seen_line : Line → SeenSlot → SeenLine
seen_line line slot = record { step = line.step; first = line.first; pilots = line_pilots line slot }

-- the pilots of each antenna port in a slot, by port number
abbrev pub lines_of : Carrier → SeenSlot → List SeenLine
lines_of carrier slot = values_below (ports_of carrier) (λ port. seen_line (line_of carrier port slot) slot)

-- the channel at a subcarrier from a port's pilots, times their distance in subcarriers
abbrev pub along : SeenLine → ℕ → Cpx
along seen k = line_by seen.step (length seen.pilots - 1) (value_at seen.pilots) seen.first k

-- the pilots cover all 72 subcarriers at a distance of at most 6, and their components have magnitude at most 180 *
-- 2^25
pub record IsFilled (seen : SeenLine) : Type 0 where
  pub whole : seen.step * length seen.pilots ≡ subcarriers
  pub first : seen.first < seen.step
  pub few : seen.step ≤ 6
  pub small : All (IsWithin (180 * 2 ^ 25)) seen.pilots

-- the data that is stored with a slot: the pilots of each port, and the energy of all pilots
pub record IsKept (carrier : Carrier) (slot : SeenSlot) (lines : List SeenLine) (energy : ℕ) : Type 0 where
  pub number : slot.number < 20
  pub small : AreSmall slot.symbols
  pub each : lines ≡ lines_of carrier slot
  pub total : energy ≡ ports_energy carrier slot
