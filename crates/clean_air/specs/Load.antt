-- Load: the elements that a cell may send at positions that its plan leaves open, such as a live cell's traffic. (own)
use Rattle.std.specs.Prelude.{◌≡◌, ℕ, ◌+◌, ◌/◌, ◌%◌, ◌≤◌, Bool, true, false, not, ◌&&◌, nat_eq, nat_lt}
use Rattle.std.specs.Prelude.{Option, List, [], ◌∷◌}
use Rattle.cs_num.specs.declared.Cpx.{Cpx}
use Rattle.cs_num.specs.declared.Sample.{Sample}
use Rattle.cs_num.specs.Complex.{nothing, square}
use Rattle.lte_types.specs.declared.carrier.Carrier.{Carrier}
use Rattle.lte_types.specs.declared.carrier.Carrier.TheVariants.{OnePort}
use Rattle.lte_types.specs.Carrier.{ports_of}
use Rattle.lte_types.specs.Timing.{IsOffset}
use Rattle.budget.specs.Received.{AreAmplitudes}
use Rattle.cell_grid.specs.declared.antenna.Port.{Port}
use Rattle.cell_plan.specs.declared.cell.CellPlan.{CellPlan}
use Rattle.cell_grid.specs.Ports.{IsPortOf, port_prefix, port_symbols, port_slot, has_control, is_other_reference}
use Rattle.cell_grid.specs.Grid.{has_broadcast, broadcast_index, is_indicator, port_element}
use Rattle.cell_grid.specs.Load.{is_signal_symbol, is_taken, sent_element}
use Rattle.cell_grid.specs.Grid.{Elements}
use Rattle.cell_tx.specs.Sent.{prefix_sent}
use Rattle.cell_plan.specs.Gains.{AreGainsOf, IsAllowedBy}
use Rattle.cell_tx.specs.Clean.{AreNear}
use Rattle.cell_tx.specs.Emission.{mixed}

-- The elements `grid` of a port carry a plan: in each resource element that the plan uses, `grid` has the plan's
-- element, and no element has a magnitude above 256.
pub record CarriesPlan (port : Port) (plan : CellPlan) (grid : Elements) : Type 0 where
  pub taken : (sfn subframe symbol k : ℕ) → is_taken port plan sfn subframe symbol k ≡ true →
      grid sfn subframe symbol k ≡ port_element port plan sfn subframe symbol k
  pub small : (sfn subframe symbol : ℕ) → AreAmplitudes (grid sfn subframe symbol)

-- the signal received from all ports, each times its gain, at sample `i` of a recording that begins at sample `offset`
-- of the frame numbered `sfn`
abbrev pub received_from : Carrier → (Port → Elements) → ℕ → ℕ → List Cpx → ℕ → Cpx
received_from carrier grids sfn offset gains i =
    mixed carrier (λ port. prefix_sent (port_prefix port) (grids port) sfn (i + offset)) gains

-- A recording is clean for elements of each port that carry the plan, from frame number `sfn`, whatever the elements
-- are outside the plan: each sample component is within `eps` of the received signal, and the gains allow `eps`
-- (`IsAllowedBy`).
pub record IsLoadedBy (carrier : Carrier) (recording : List Sample) (plan : CellPlan) (grids : Port → Elements)
    (sfn offset : ℕ) (gains : List Cpx) (eps : ℕ) : Type 0 where
  pub number : sfn ≤ 1023
  pub within : IsOffset offset
  pub carries : (port : Port) → IsPortOf carrier port → CarriesPlan port plan (grids port)
  pub gains_are : AreGainsOf carrier gains
  pub bound : IsAllowedBy carrier gains eps
  pub near : AreNear recording (received_from carrier grids sfn offset gains) eps

-- a recording is clean for elements that carry the plan, sent by a cell with one port
abbrev pub IsLoaded : List Sample → CellPlan → Elements → ℕ → ℕ → Cpx → ℕ → Type 0
IsLoaded recording plan grid sfn offset gain eps =
    IsLoadedBy OnePort recording plan (λ port. grid) sfn offset (gain ∷ []) eps

-- a law: the elements that a cell sends for its plan carry the plan, with or without load
abbrev pub SentElementsCarry : Type 0
SentElementsCarry =
    (load : Option ℕ) (port : Port) (plan : CellPlan) → CarriesPlan port plan (sent_element load port plan)

-- a law: without load, a cell sends zero in each resource element that the plan leaves open, except in the resource
-- elements of the PCFICH
abbrev pub OpenPlacesAreSilent : Type 0
OpenPlacesAreSilent =
    (port : Port) (plan : CellPlan) (sfn subframe symbol k : ℕ) → is_taken port plan sfn subframe symbol k ≡ false →
    (has_control port && is_indicator plan symbol k) ≡ false → port_element port plan sfn subframe symbol k ≡ nothing

-- Whether port `number` is silent in symbol `i` of a channel because the other pair of ports sends the symbol: with
-- four ports, transmit diversity alternates between ports 0 and 2 and ports 1 and 3 (TS 36.211 section 6.3.4.3).
abbrev pub is_of_others_by : Carrier → ℕ → ℕ → Bool
is_of_others_by carrier number i = nat_lt 2 (ports_of carrier) && not (nat_eq (i / 2 % 2) (number % 2))

abbrev pub is_of_others : Port → ℕ → Bool
is_of_others port i = is_of_others_by port.carrier port.number i

-- whether a broadcast channel resource element holds a symbol that the other pair of ports sends
abbrev pub is_other_pair : Port → CellPlan → ℕ → ℕ → ℕ → Bool
is_other_pair port plan subframe symbol k =
    has_broadcast port plan.identity subframe symbol k
    && is_of_others port (broadcast_index port plan.identity symbol k)

-- a law: in each resource element that the plan uses, a QPSK symbol is sent (amplitude squared 16200), outside the
-- synchronisation signals' symbols, other ports' reference signals and the other pair's symbols
abbrev pub TakenPlacesAreSent : Type 0
TakenPlacesAreSent =
    (port : Port) (plan : CellPlan) (sfn subframe symbol k : ℕ) → is_taken port plan sfn subframe symbol k ≡ true →
    is_signal_symbol port subframe symbol ≡ false →
    is_other_reference port plan.identity (port_slot port subframe symbol) (symbol % port_symbols port) k ≡ false →
    is_other_pair port plan subframe symbol k ≡ false →
    square (port_element port plan sfn subframe symbol k) ≡ 16200
