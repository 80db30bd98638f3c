-- A recording is near a cell's waveform: in each symbol that the receiver reads, the samples are the sum of what the
-- cell's antenna ports transmit before any rounding, each port's signal times its gain, up to errors of small energy.
-- (own; the waveform is that of TS 36.211 section 6.12; frames, slots and symbols are in sections 4.1 and 6.2)
use Rattle.std.specs.Prelude.{◌≡◌, ℕ, ◌+◌, ◌*◌, ◌^◌, ◌/◌, ◌%◌, ◌<◌, ◌≤◌, ◌⊎◌, nat_eq, if◌then◌else◌, List}
use Rattle.cs_num.specs.declared.Cpx.{Cpx}
use Rattle.cs_num.specs.declared.Sample.{Sample}
use Rattle.cs_num.specs.Complex.{minus, multiple, square, value_at}
use Rattle.norms.specs.Magnitudes.{energy_below}
use Rattle.lte_types.specs.declared.carrier.Carrier.{Carrier}
use Rattle.lte_types.specs.declared.numerology.Prefix.{Prefix}
use Rattle.lte_types.specs.Carrier.{prefix_of, ports_of}
use Rattle.lte_types.specs.Numerology.{frame_length, useful_length, symbols_of_slot, useful_start}
use Rattle.lte_types.specs.Timing.{IsOffset}
use Rattle.budget.specs.Budget.{unrounded}
use Rattle.budget.specs.Received.{received_of, samples_from}
use Rattle.cell_grid.specs.declared.antenna.Port.{Port}
use Rattle.cell_grid.specs.Ports.{IsPortOf, port_by}
use Rattle.cell_grid.specs.Grid.{Elements}
use Rattle.cell_plan.specs.declared.cell.CellPlan.{CellPlan}
use Rattle.clean_air.specs.Load.{CarriesPlan}
use Rattle.clean_air.specs.Faithful.{ArePartGains, IsOfMaster, IsOfSystem, IsOfPrimary, IsOfSecondary}

-- ---- one symbol

-- sample n of the waveform of one symbol: the sum over the antenna ports of the port's gain times its sample before
-- rounding. `grids` has the symbol's elements by port and subcarrier. Gains are in units of 2^-14 and samples before
-- rounding in units of 2^-17, so the waveform is in units of 2^-31.
abbrev pub waveform : ℕ → (ℕ → Cpx) → (ℕ → ℕ → Cpx) → ℕ → Cpx
waveform ports gains grids n = received_of ports gains (λ port. unrounded (grids port) n)

-- the error energy of 128 samples relative to the waveform of a symbol, in units of 2^-62
abbrev pub error_energy : ℕ → (ℕ → Cpx) → (ℕ → ℕ → Cpx) → (ℕ → Cpx) → ℕ
error_energy ports gains grids samples =
    energy_below useful_length (λ n. minus (multiple (2 ^ 31) (samples n)) (waveform ports gains grids n))

-- `energy`, in units of 2^-62, is at most `quota` times `power`, a sum of squared gains in units of 2^-28
abbrev pub IsWithinQuota : ℕ → ℕ → ℕ → Type 0
IsWithinQuota quota power energy = energy ≤ 2 ^ 34 * (quota * power)

-- ---- recordings

-- the maximum error energy of a symbol in a decoded slot, relative to the sum of the squares of all ports' gains, by
-- the antenna port count
abbrev pub slot_quota : ℕ → ℕ
slot_quota ports = if nat_eq ports 1 then 2555 else (if nat_eq ports 2 then 992 else 350)

-- the maximum error energy of a synchronisation signal's symbol, relative to the square of port 0's gain
abbrev pub signal_quota : ℕ
signal_quota = 5300

-- the elements of one symbol by subcarrier, from a port's elements `grid`: frame `number`, slot 0 to 19 of the frame,
-- and symbol 0 to 6 of the slot, or 0 to 5 with the extended prefix
abbrev pub symbol_elements : Prefix → Elements → ℕ → ℕ → ℕ → ℕ → Cpx
symbol_elements prefix grid number slot symbol = grid number (slot / 2) (symbols_of_slot prefix * (slot % 2) + symbol)

-- the error energy of the 128 samples from `start`, relative to the waveform of a symbol in frame `number`
abbrev pub errors_at : Carrier → List Sample → (Port → Elements) → List Cpx → ℕ → ℕ → ℕ → ℕ → ℕ
errors_at carrier recording grids gains number slot symbol start =
    error_energy (ports_of carrier) (value_at gains)
    (λ port. symbol_elements (prefix_of carrier) (grids (port_by carrier port)) number slot symbol)
    (samples_from recording start)

-- A recording is near the waveform of a cell whose ports send elements that carry a plan, from frame number `sfn`.
-- `slots`: in each symbol of a slot that the receiver decodes, the error energy is small compared with the gains of all
-- ports together. `signals`: in the symbol of each synchronisation signal that the receiver reads, the error energy is
-- small compared with the gain of port 0, which alone sends the signal. The useful part of a symbol begins at sample
-- `start`.
pub record IsNearWaveform (carrier : Carrier) (recording : List Sample) (plan : CellPlan) (grids : Port → Elements)
    (sfn offset : ℕ) (gains : List Cpx) : Type 0 where
  pub number : sfn ≤ 1023
  pub within : IsOffset offset
  pub carries : (port : Port) → IsPortOf carrier port → CarriesPlan port plan (grids port)
  pub gains_are : ArePartGains carrier gains
  pub slots : (frame slot symbol start : ℕ) → slot < 20 → symbol < symbols_of_slot (prefix_of carrier) →
      start + offset ≡ frame_length * frame + useful_start (prefix_of carrier) 0 slot symbol →
      IsOfMaster offset frame slot ⊎ IsOfSystem carrier sfn offset frame slot →
      IsWithinQuota (slot_quota (ports_of carrier)) (energy_below (ports_of carrier) (value_at gains))
      (errors_at carrier recording grids gains ((sfn + frame) % 1024) slot symbol start)
  pub signals : (frame slot symbol start : ℕ) → slot < 20 → symbol < symbols_of_slot (prefix_of carrier) →
      start + offset ≡ frame_length * frame + useful_start (prefix_of carrier) 0 slot symbol →
      IsOfPrimary carrier slot symbol start ⊎ IsOfSecondary carrier slot symbol start →
      IsWithinQuota signal_quota (square (value_at gains 0))
      (errors_at carrier recording grids gains ((sfn + frame) % 1024) slot symbol start)
