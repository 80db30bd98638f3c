-- Cells with one antenna port and a slowly varying gain: each symbol in a slot that the receiver decodes has its own
-- gain. (own)
use Rattle.std.specs.Prelude.{◌≡◌, ℕ, ◌+◌, ◌*◌, ◌^◌, ◌<◌, ◌≤◌, ◌⊎◌, List, [], ◌∷◌, slice_index_or}
use Rattle.cs_num.specs.declared.Cpx.{Cpx}
use Rattle.cs_num.specs.declared.Sample.{Sample}
use Rattle.cs_num.specs.Complex.{square, minus, value_at}
use Rattle.crs.specs.Reference.{port_0}
use Rattle.lte_types.specs.declared.carrier.Carrier.TheVariants.{OnePort}
use Rattle.lte_types.specs.Numerology.{frame_length, normal, useful_start}
use Rattle.lte_types.specs.Timing.{IsOffset}
use Rattle.observe.specs.Seen.{seen_symbol}
use Rattle.soft_bits.specs.Soft.{SeenSlot, pilot_subcarrier, pattern_symbol, pattern_sent}
use Rattle.budget.specs.Received.{AreAmplitudes, IsReceived, samples_from}
use Rattle.budget.specs.Budget.{AreUnitsOf}
use Rattle.budget.specs.Through.{Channel, Bounds, LeaveRoom}
use Rattle.cell_grid.specs.declared.antenna.Port.{Port}
use Rattle.cell_grid.specs.Ports.{IsPortOf}
use Rattle.cell_plan.specs.declared.cell.CellPlan.{CellPlan}
use Rattle.cell_grid.specs.Grid.{Elements}
use Rattle.clean_air.specs.Load.{CarriesPlan}
use Rattle.clean_air.specs.Faithful.{IsOfMaster, IsOfSystem, IsOfPrimary, IsOfSecondary, errors_from, IsFaithfulBy}
use Rattle.clean_air.specs.Through.{IsSlotThrough, IsSeenThroughBy}

-- ---- a slot

-- any two gains of a slot's seven symbols differ by at most `bend` thousandths of either gain's magnitude
abbrev pub AreSlow : ℕ → (ℕ → Cpx) → Type 0
AreSlow bend gains = (l m : ℕ) → l < 7 → m < 7 →
    1000000 * square (minus (gains l) (gains m)) ≤ bend * bend * square (gains m)

-- The seven symbols of a slot are received, each with its own gain and an error energy up to `quota` times the gain's
-- square, and contain the slot's reference signals. Any two gains differ by at most `bend` thousandths of either gain's
-- magnitude.
pub record IsSlotFading (quota bend : ℕ) (recording : List Sample) (starts : ℕ → ℕ) (gains : ℕ → Cpx)
    (grids : ℕ → ℕ → Cpx) (slot : SeenSlot) : Type 0 where
  pub shown : (l : ℕ) → l < 7 → slice_index_or slot.symbols l [] ≡ seen_symbol recording (starts l)
  pub amplitudes : (l : ℕ) → l < 7 → AreAmplitudes (grids l)
  pub received : (l : ℕ) → l < 7 → IsReceived quota (gains l) (grids l) (samples_from recording (starts l))
  pub references : (i : ℕ) → i < 24 →
      grids (pattern_symbol port_0 slot.identity i) (pilot_subcarrier slot.identity i)
      ≡ pattern_sent port_0 slot.identity slot.number i
  pub slow : AreSlow bend gains

-- the channel that has the gain of each symbol at all of the symbol's subcarriers
abbrev pub by_symbol : (ℕ → Cpx) → Channel
by_symbol gains symbol k = gains symbol

-- the bounds of a channel whose gains differ by at most `bend` thousandths, relative to the weakest gain; `most` bounds
-- the deviation of demodulated values
abbrev pub fading_bounds : ℕ → ℕ → Bounds
fading_bounds most bend = record { most = most; least = 1000; mean = 1000 + bend; bend = bend }

-- A slowly varying gain leaves room for soft values of magnitude 1. With an error energy up to `quota` times the gain's
-- square, a demodulated amplitude deviates by at most `own` times its symbol's gain, and so by at most `most` times the
-- weakest gain, in magnitude.
pub record LeaveFadingRoom (quota bend : ℕ) : Type 0 where
  pub own : ℕ
  pub most : ℕ
  pub units : AreUnitsOf quota own
  pub wider : own * (1000 + bend) ≤ 1000 * most
  pub room : LeaveRoom 1 (fading_bounds most bend)

-- a slot is received through the channel of its symbols' gains, with bounds relative to the weakest gain
pub record IsThroughGains (bounds : Bounds) (gains : ℕ → Cpx) (grids : ℕ → ℕ → Cpx) (slot : SeenSlot) : Type 0 where
  pub weakest : ℕ
  pub few : weakest < 7
  pub through : IsSlotThrough bounds (square (gains weakest)) (by_symbol gains) grids slot

-- a law: a slot with slowly varying gains is received through the channel of its symbols' gains, if `quota` and `bend`
-- leave room
abbrev pub FadingSlotIsThrough : Type 0
FadingSlotIsThrough =
    (quota bend : ℕ) (leave : LeaveFadingRoom quota bend) (recording : List Sample) (starts : ℕ → ℕ) (gains : ℕ → Cpx)
    (grids : ℕ → ℕ → Cpx) (slot : SeenSlot) → IsSlotFading quota bend recording starts gains grids slot →
    IsThroughGains (fading_bounds leave.most bend) gains grids slot

-- ---- cells

-- the receiver decodes the slot: slot 1 of the first whole frame, or a subframe 5 slot in the first even-numbered whole
-- frame
abbrev pub IsRead : ℕ → ℕ → ℕ → ℕ → Type 0
IsRead sfn offset frame slot = IsOfMaster offset frame slot ⊎ IsOfSystem OnePort sfn offset frame slot

-- A recording is faithful to elements that carry the plan, except that the gain varies. Each symbol that the receiver
-- decodes has its own gain (by frame, slot and symbol), which varies slowly within a slot. The two synchronisation
-- signals of a slot share one gain (by frame and slot). `near`, `signals_near`: the error energy is at most `quota`, or
-- 1800, times the gain's square.
pub record IsFadingBy (quota bend : ℕ) (recording : List Sample) (plan : CellPlan) (grids : Port → Elements)
    (sfn offset : ℕ) (gains : ℕ → ℕ → ℕ → Cpx) (signal_gains : ℕ → ℕ → Cpx) : Type 0 where
  pub number : sfn ≤ 1023
  pub within : IsOffset offset
  pub carries : (port : Port) → IsPortOf OnePort port → CarriesPlan port plan (grids port)
  pub sounds : (frame slot symbol : ℕ) → 2 ^ 28 ≤ square (gains frame slot symbol)
  pub signals_sound : (frame slot : ℕ) → 2 ^ 28 ≤ square (signal_gains frame slot)
  pub slow : (frame slot : ℕ) → IsRead sfn offset frame slot → AreSlow bend (gains frame slot)
  pub near : (frame slot symbol start : ℕ) → slot < 20 → symbol < 7 →
      start + offset ≡ frame_length * frame + useful_start normal 0 slot symbol → IsRead sfn offset frame slot →
      errors_from OnePort recording grids sfn offset (gains frame slot symbol ∷ []) start
      ≤ quota * square (gains frame slot symbol)
  pub signals_near : (frame slot symbol start : ℕ) → slot < 20 → symbol < 7 →
      start + offset ≡ frame_length * frame + useful_start normal 0 slot symbol →
      IsOfPrimary OnePort slot symbol start ⊎ IsOfSecondary OnePort slot symbol start →
      errors_from OnePort recording grids sfn offset (signal_gains frame slot ∷ []) start
      ≤ 1800 * square (signal_gains frame slot)

-- a law: a cell with slowly varying gains is received through channels, if `quota` and `bend` leave room
abbrev pub FadingIsThrough : Type 0
FadingIsThrough =
    (quota bend : ℕ) (recording : List Sample) (plan : CellPlan) (grids : Port → Elements) (sfn offset : ℕ)
    (gains : ℕ → ℕ → ℕ → Cpx) (signal_gains : ℕ → ℕ → Cpx) → LeaveFadingRoom quota bend → plan.identity ≤ 503 →
    IsFadingBy quota bend recording plan grids sfn offset gains signal_gains →
    IsSeenThroughBy OnePort recording plan grids sfn offset

-- a law: a cell to which the recording is faithful is the special case of slowly varying gains in which all gains are
-- equal
abbrev pub FaithfulIsFading : Type 0
FaithfulIsFading =
    (recording : List Sample) (plan : CellPlan) (grids : Port → Elements) (sfn offset : ℕ) (gains : List Cpx) →
    IsFaithfulBy OnePort recording plan grids sfn offset gains →
    IsFadingBy 1800 0 recording plan grids sfn offset (λ frame slot symbol. value_at gains 0)
    (λ frame slot. value_at gains 0)
