-- The resource grid of a transmitted frame, indexed by subframe, symbol and subcarrier. A subframe has symbols 0 to
-- 13, or 0 to 11 with the extended cyclic prefix (TS 36.211 section 6.2).
use Rattle.std.specs.Prelude.{ℕ, ◌-◌, ◌/◌, ◌%◌, Bool, ◌&&◌, ◌||◌, nat_eq, nat_lt, if◌then◌else◌, List, length}
use Rattle.cs_num.specs.declared.Cpx.{Cpx}
use Rattle.cs_num.specs.Complex.{nothing}
use Rattle.lte_types.specs.Numerology.{half_of, is_extended}
use Rattle.sync_seq.specs.Primary.{pss_at}
use Rattle.sync_seq.specs.Middle.{is_middle}
use Rattle.sync_seq.specs.Secondary.{sss_amplitude}
use Rattle.grid_map.specs.declared.Place.{Place}
use Rattle.grid_map.specs.Place.{place, index_in}
use Rattle.grid_map.specs.Broadcast.{pbch_places}
use Rattle.grid_map.specs.LongBroadcast.{long_places}
use Rattle.grid_map.specs.Control.{pcfich_places}
use Rattle.cell_grid.specs.declared.antenna.Port.{Port}
use Rattle.cell_plan.specs.declared.cell.CellPlan.{CellPlan}
use Rattle.cell_grid.specs.Ports.{only_port, port_prefix, port_symbols, port_slot, has_control, sent_point}
use Rattle.cell_grid.specs.Ports.{sent_signal, is_own_reference, is_other_reference, port_reference}
use Rattle.cell_grid.specs.Block.{port_point}
use Rattle.cell_grid.specs.Control.{control_places, indicator_point, control_point}
use Rattle.cell_grid.specs.Shared.{assigned_places, shared_point}

-- the values of resource elements, by frame number, subframe, symbol in the subframe, and subcarrier
abbrev pub Elements : Type 0
Elements = ℕ → ℕ → ℕ → ℕ → Cpx

-- ---- positions

-- whether the resource element belongs to the synchronisation signal in symbol `signal`: the middle 62 subcarriers in
-- subframes 0 and 5 (TS 36.211 sections 6.11.1.2 and 6.11.2.2)
abbrev pub is_synchronised : ℕ → ℕ → ℕ → ℕ → Bool
is_synchronised signal subframe symbol k =
    (nat_eq subframe 0 || nat_eq subframe 5) && nat_eq symbol signal && is_middle k

-- whether the resource element belongs to the PSS, in the last symbol of slots 0 and 10, or to the SSS
-- (`is_secondary`), one symbol earlier
abbrev pub is_primary : Port → ℕ → ℕ → ℕ → Bool
is_primary port subframe symbol k = is_synchronised (port_symbols port - 1) subframe symbol k

abbrev pub is_secondary : Port → ℕ → ℕ → ℕ → Bool
is_secondary port subframe symbol k = is_synchronised (port_symbols port - 2) subframe symbol k

-- whether resource element `p` is in the list `places`
abbrev pub is_one_of : List Place → Place → Bool
is_one_of places p = nat_lt (index_in places p) (length places)

-- the PBCH resource elements (TS 36.211 section 6.6.4), by symbol in subframe 0, or by symbol in slot 1 with the
-- extended cyclic prefix
abbrev pub broadcast_places : Port → ℕ → List Place
broadcast_places port identity = if is_extended (port_prefix port) then long_places identity else pbch_places identity

-- the symbol index that `broadcast_places` uses: the symbol in the subframe or, with the extended cyclic prefix, in the
-- slot
abbrev pub broadcast_symbol : Port → ℕ → ℕ
broadcast_symbol port symbol = if is_extended (port_prefix port) then symbol % port_symbols port else symbol

-- whether a symbol lies in slot 1, which carries the PBCH
abbrev pub may_broadcast : Port → ℕ → ℕ → Bool
may_broadcast port subframe symbol = nat_eq (port_slot port subframe symbol) 1

-- whether the resource element belongs to the PBCH
abbrev pub has_broadcast : Port → ℕ → ℕ → ℕ → ℕ → Bool
has_broadcast port identity subframe symbol k =
    may_broadcast port subframe symbol
    && is_one_of (broadcast_places port identity) (place (broadcast_symbol port symbol) k)

-- the index of a PBCH resource element in mapping order
abbrev pub broadcast_index : Port → ℕ → ℕ → ℕ → ℕ
broadcast_index port identity symbol k =
    index_in (broadcast_places port identity) (place (broadcast_symbol port symbol) k)

-- whether the resource element belongs to the PCFICH, in every subframe (TS 36.211 section 6.7)
abbrev pub is_indicator : CellPlan → ℕ → ℕ → Bool
is_indicator plan symbol k = is_one_of (pcfich_places plan.identity) (place symbol k)

-- whether the subframe carries system information: subframe 5 of even frames (TS 36.331 section 5.2.1.2)
abbrev pub has_system_information : ℕ → ℕ → Bool
has_system_information sfn subframe = nat_eq subframe 5 && nat_eq (sfn % 2) 0

-- whether the resource element belongs to the PDCCH that grants system information, which is only in subframe 5 of even
-- frames (TS 36.211 section 6.8)
abbrev pub is_control : CellPlan → ℕ → ℕ → ℕ → ℕ → Bool
is_control plan sfn subframe symbol k =
    has_system_information sfn subframe && is_one_of (control_places plan) (place symbol k)

-- whether the resource element belongs to the PDSCH that carries system information, only in subframe 5 of even frames
-- (TS 36.211 section 6.4)
abbrev pub is_shared : Port → CellPlan → ℕ → ℕ → ℕ → ℕ → Bool
is_shared port plan sfn subframe symbol k =
    has_system_information sfn subframe && is_one_of (assigned_places port.carrier plan) (place symbol k)

-- ---- values at an antenna port

-- the value of the cell-specific reference signal at a resource element (TS 36.211 section 6.10.1)
abbrev pub reference_value : Port → CellPlan → ℕ → ℕ → ℕ → Cpx
reference_value port plan subframe symbol k =
    port_reference port plan.identity (port_slot port subframe symbol) (symbol % port_symbols port) k

-- the value of the PSS at subcarrier `k`, from 5 to 66 (TS 36.211 section 6.11.1)
abbrev pub primary_value : CellPlan → ℕ → Cpx
primary_value plan k = pss_at (plan.identity % 3) (k - 5)

-- the value of the SSS at subcarrier `k`, from 5 to 66, in a subframe (TS 36.211 section 6.11.2)
abbrev pub secondary_value : CellPlan → ℕ → ℕ → Cpx
secondary_value plan subframe k =
    sss_amplitude (plan.identity / 3) (plan.identity % 3) (half_of subframe) (k - 5)

-- the PBCH value that a port transmits at a resource element of the PBCH (TS 36.211 section 6.6)
abbrev pub broadcast_value : Port → CellPlan → ℕ → ℕ → ℕ → Cpx
broadcast_value port plan sfn symbol k =
    sent_point port (port_point port plan sfn) (broadcast_index port plan.identity symbol k)

-- the PCFICH value that a port transmits at a resource element of the PCFICH (TS 36.211 section 6.7)
abbrev pub indicator_value : Port → CellPlan → ℕ → ℕ → ℕ → Cpx
indicator_value port plan subframe symbol k =
    sent_point port (indicator_point plan subframe) (index_in (pcfich_places plan.identity) (place symbol k))

-- the PDCCH value that a port transmits at a resource element of the PDCCH (TS 36.211 section 6.8)
abbrev pub control_value : Port → CellPlan → ℕ → ℕ → ℕ → Cpx
control_value port plan sfn symbol k =
    sent_point port (control_point plan sfn) (index_in (control_places plan) (place symbol k))

-- the PDSCH value that a port transmits at a resource element of the PDSCH (TS 36.211 section 6.4)
abbrev pub shared_value : Port → CellPlan → ℕ → ℕ → ℕ → Cpx
shared_value port plan sfn symbol k =
    sent_point port (shared_point plan sfn) (index_in (assigned_places port.carrier plan) (place symbol k))

-- ---- resource elements

-- the PCFICH, PDCCH or PDSCH value that a port transmits at a resource element, or 0 if none of these channels occupies
-- the element
abbrev pub system_value : Port → CellPlan → ℕ → ℕ → ℕ → ℕ → Cpx
system_value port plan sfn subframe symbol k =
    if is_indicator plan symbol k then indicator_value port plan subframe symbol k
    else (if is_control plan sfn subframe symbol k then control_value port plan sfn symbol k
    else (if is_shared port plan sfn subframe symbol k then shared_value port plan sfn symbol k
    else nothing))

-- the value of the first channel that occupies a resource element (PBCH, PCFICH, PDCCH, PDSCH), or 0 if no channel does
unfoldable pub port_channel_value : Port → CellPlan → ℕ → ℕ → ℕ → ℕ → Cpx
port_channel_value port plan sfn subframe symbol k =
    if has_broadcast port plan.identity subframe symbol k then broadcast_value port plan sfn symbol k
    else (if has_control port then system_value port plan sfn subframe symbol k else nothing)

-- The value that a port transmits at a resource element in frame `sfn`. The first case that applies gives the value, so
-- signals take priority over channels. A port transmits nothing at other ports' reference positions.
unfoldable pub port_element : Port → CellPlan → ℕ → ℕ → ℕ → ℕ → Cpx
port_element port plan sfn subframe symbol k =
    if is_own_reference port plan.identity (port_slot port subframe symbol) (symbol % port_symbols port) k
    then reference_value port plan subframe symbol k
    else (if is_other_reference port plan.identity (port_slot port subframe symbol) (symbol % port_symbols port) k
    then nothing
    else (if is_primary port subframe symbol k then sent_signal port (primary_value plan k)
    else (if is_secondary port subframe symbol k then sent_signal port (secondary_value plan subframe k)
    else port_channel_value port plan sfn subframe symbol k)))

-- ---- resource elements with one antenna port

abbrev pub element : CellPlan → ℕ → ℕ → ℕ → ℕ → Cpx
element plan sfn subframe symbol k = port_element only_port plan sfn subframe symbol k
