-- The resource elements that a plan uses, and the load on the other elements: pseudo-random QPSK symbols that imitate a
-- live cell's traffic. (own)
use Rattle.std.specs.Prelude.{ℕ, ◌+◌, ◌-◌, ◌*◌, ◌%◌, ◌^◌, Bool, not, ◌&&◌, ◌||◌, nat_eq, if◌then◌else◌, Option}
use Rattle.std.specs.Prelude.{Some, None}
use Rattle.cs_num.specs.declared.Cpx.{Cpx}
use Rattle.gold.specs.Gold.{gold_bit}
use Rattle.cell_grid.specs.declared.antenna.Port.{Port}
use Rattle.cell_plan.specs.declared.cell.CellPlan.{CellPlan}
use Rattle.cell_grid.specs.Ports.{port_symbols, port_slot, has_control, is_own_reference, is_other_reference}
use Rattle.cell_grid.specs.Points.{point_of}
use Rattle.cell_grid.specs.Grid.{has_system_information, has_broadcast, is_indicator, is_control, is_shared, port_element}
use Rattle.cell_grid.specs.Grid.{Elements}
use Rattle.lte_types.specs.Numerology.{subcarriers}

-- ---- occupied resource elements

-- Whether a symbol carries a synchronisation signal: the last two symbols of slots 0 and 10. The five subcarriers on
-- either side of the signal stay empty (TS 36.211 sections 6.11.1.2 and 6.11.2.2). In 6 resource blocks, the signal and
-- these subcarriers fill the symbol.
abbrev pub is_signal_symbol : Port → ℕ → ℕ → Bool
is_signal_symbol port subframe symbol =
    (nat_eq subframe 0 || nat_eq subframe 5)
    && (nat_eq symbol (port_symbols port - 2) || nat_eq symbol (port_symbols port - 1))

-- whether the resource element carries a reference signal of any of the cell's ports
abbrev pub is_any_reference : Port → CellPlan → ℕ → ℕ → ℕ → Bool
is_any_reference port plan subframe symbol k =
    is_own_reference port plan.identity (port_slot port subframe symbol) (symbol % port_symbols port) k
    || is_other_reference port plan.identity (port_slot port subframe symbol) (symbol % port_symbols port) k

-- Whether the resource element belongs to the plan's system information: PCFICH, PDCCH or PDSCH. The PCFICH is included
-- only in subframes with system information; in other subframes it may signal any control format indicator.
abbrev pub has_system_place : Port → CellPlan → ℕ → ℕ → ℕ → ℕ → Bool
has_system_place port plan sfn subframe symbol k =
    (has_system_information sfn subframe && is_indicator plan symbol k)
    || (is_control plan sfn subframe symbol k || is_shared port plan sfn subframe symbol k)

-- whether the resource element belongs to a channel whose value the plan fixes in frame `sfn`: the PBCH or system
-- information
abbrev pub has_channel : Port → CellPlan → ℕ → ℕ → ℕ → ℕ → Bool
has_channel port plan sfn subframe symbol k =
    has_broadcast port plan.identity subframe symbol k
    || (has_control port && has_system_place port plan sfn subframe symbol k)

-- whether the plan fixes the value at a resource element: a signal symbol, a reference signal of any port, or a channel
unfoldable pub is_taken : Port → CellPlan → ℕ → ℕ → ℕ → ℕ → Bool
is_taken port plan sfn subframe symbol k =
    is_signal_symbol port subframe symbol
    || (is_any_reference port plan subframe symbol k || has_channel port plan sfn subframe symbol k)

-- ---- load

-- whether the resource element carries load: the plan leaves the element open, and the element does not belong to the
-- PCFICH
unfoldable pub is_loaded : Port → CellPlan → ℕ → ℕ → ℕ → ℕ → Bool
is_loaded port plan sfn subframe symbol k =
    not (is_taken port plan sfn subframe symbol k) && not (has_control port && is_indicator plan symbol k)

-- `c_init` of the Gold sequence for load number `load`, distinct for each port, frame and subframe. Load numbers that
-- differ by 2^18 give equal values.
abbrev pub load_c_init : ℕ → Port → ℕ → ℕ → ℕ
load_c_init load port sfn subframe = (40960 * load + 10240 * port.number + 10 * sfn + subframe) % 2 ^ 31

-- the load's QPSK symbol at a resource element (TS 36.211 sections 7.2 and 7.1.2)
unfoldable pub load_point : ℕ → Port → ℕ → ℕ → ℕ → ℕ → Cpx
load_point load port sfn subframe symbol k =
    point_of (gold_bit (load_c_init load port sfn subframe)) (subcarriers * symbol + k)

-- the values that a port transmits for a plan with load number `load`
unfoldable pub loaded_element : ℕ → Port → CellPlan → Elements
loaded_element load port plan sfn subframe symbol k =
    if is_loaded port plan sfn subframe symbol k then load_point load port sfn subframe symbol k
    else port_element port plan sfn subframe symbol k

-- the values that a port transmits for a plan, with or without load
abbrev pub sent_element : Option ℕ → Port → CellPlan → Elements
sent_element None port plan = port_element port plan
sent_element (Some load) port plan = loaded_element load port plan
