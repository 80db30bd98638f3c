-- The data from which the code assembles a frame: values at each resource element, tables and symbols. (own)
use Rattle.std.specs.Prelude.{ℕ, ◌+◌, ◌-◌, ◌*◌, ◌/◌, ◌%◌, ◌<◌, ◌≤◌, ◌≡◌, Bool, false, ◌&&◌, ◌||◌, nat_eq, nat_lt}
use Rattle.std.specs.Prelude.{if◌then◌else◌, Option, Some, None, List, length, slice_index_or}
use Rattle.finite.specs.Lists.{values_below}
use Rattle.cs_num.specs.declared.Cpx.{Cpx}
use Rattle.cs_num.specs.declared.Sample.{Sample}
use Rattle.cs_num.specs.Complex.{nothing, value_at, sample_of}
use Rattle.lte_types.specs.declared.numerology.Prefix.{Prefix}
use Rattle.lte_types.specs.Numerology.{frame_length, slot_length, useful_length, symbol_step, subcarriers}
use Rattle.lte_types.specs.Numerology.{symbols_of_slot, symbol_of}
use Rattle.lte_types.specs.declared.frame.Half.TheVariants.{Zero as Start, Five as Middle}
use Rattle.sync_seq.specs.Primary.{pss_list}
use Rattle.sync_seq.specs.Secondary.{sss_list}
use Rattle.gold.specs.Gold.{gold_bit}
use Rattle.grid_map.specs.declared.Place.{Place}
use Rattle.grid_map.specs.Place.{place, index_in}
use Rattle.grid_map.specs.Control.{pcfich_places}
use Rattle.cell_grid.specs.declared.antenna.Port.{Port}
use Rattle.lte_types.specs.declared.carrier.Carrier.{Carrier}
use Rattle.lte_types.specs.Carrier.{ports_of}
use Rattle.cell_plan.specs.declared.cell.CellPlan.{CellPlan}
use Rattle.cell_grid.specs.declared.points.PlaceTable.{PlaceTable}
use Rattle.cell_grid.specs.declared.layout.Layout.{Layout}
use Rattle.cell_grid.specs.declared.layout.Carried.{Carried}
use Rattle.cell_grid.specs.declared.layout.Versions.{Versions}
use Rattle.cell_grid.specs.Ports.{has_control, sent_point, is_own_reference, is_other_reference, port_reference}
use Rattle.cell_grid.specs.Control.{indicator_point, control_places, control_point}
use Rattle.cell_grid.specs.Shared.{assigned_places, shared_point}
use Rattle.cell_grid.specs.Load.{is_signal_symbol, load_c_init, load_point}
use Rattle.cell_grid.specs.Grid.{broadcast_places, has_broadcast, broadcast_value, is_one_of, is_indicator}
use Rattle.cell_grid.specs.Grid.{indicator_value, is_control, control_value, is_shared, shared_value}
use Rattle.cell_grid.specs.Grid.{Elements}

-- the value at a reference position: the port's own signal, or 0 at another port's position; `None` at other elements
abbrev pub port_reference_if : Port → ℕ → ℕ → ℕ → ℕ → Option Cpx
port_reference_if port identity slot symbol k =
    if is_own_reference port identity slot symbol k then Some (port_reference port identity slot symbol k)
    else (if is_other_reference port identity slot symbol k then Some nothing else None)

-- whether port `number` has a reference position in a symbol that ports 0 and 1 use, given whether port 0 (`zero`) and
-- port 1 (`one`) have one there
abbrev pub lower_test : ℕ → Bool → Bool → Bool
lower_test number zero one = if nat_lt number 2 then (if nat_eq number 0 then zero else one) else false

-- whether any port has a reference position in a symbol that ports 0 and 1 use, given whether port 0 (`zero`) and port
-- 1 (`one`) have one there
abbrev pub any_lower_test : Carrier → Bool → Bool → Bool
any_lower_test carrier zero one = zero || (nat_lt 1 (ports_of carrier) && one)

-- whether port `number` has a reference position in the symbol that ports 2 and 3 use, given whether port 2 (`two`) and
-- port 3 (`three`) have one there
abbrev pub upper_test : ℕ → Bool → Bool → Bool
upper_test number two three = if nat_lt number 2 then false else (if nat_eq (number % 2) 0 then two else three)

-- whether any port has a reference position in the symbol that ports 2 and 3 use, given whether port 2 (`two`) and port
-- 3 (`three`) have one there
abbrev pub any_upper_test : Carrier → Bool → Bool → Bool
any_upper_test carrier two three = nat_lt 2 (ports_of carrier) && (two || three)

-- the value that a port transmits at resource element `p`, from a channel's resource elements and symbols; `None` if
-- the channel does not occupy `p`
abbrev pub value_in : Port → List Place → List Cpx → Place → Option Cpx
value_in port places points p =
    if is_one_of places p then Some (sent_point port (value_at points) (index_in places p)) else None

-- the PBCH value at a resource element in a subframe, or `None` if the PBCH does not occupy the element;
-- `indicator_if`, `control_if` and `shared_if` give the PCFICH, PDCCH and PDSCH values
abbrev pub broadcast_if : Port → CellPlan → ℕ → ℕ → ℕ → ℕ → Option Cpx
broadcast_if port plan sfn subframe symbol k =
    if has_broadcast port plan.identity subframe symbol k then Some (broadcast_value port plan sfn symbol k) else None

abbrev pub indicator_if : Port → CellPlan → ℕ → ℕ → ℕ → Option Cpx
indicator_if port plan subframe symbol k =
    if is_indicator plan symbol k then Some (indicator_value port plan subframe symbol k) else None

abbrev pub control_if : Port → CellPlan → ℕ → ℕ → ℕ → ℕ → Option Cpx
control_if port plan sfn subframe symbol k =
    if is_control plan sfn subframe symbol k then Some (control_value port plan sfn symbol k) else None

abbrev pub shared_if : Port → CellPlan → ℕ → ℕ → ℕ → ℕ → Option Cpx
shared_if port plan sfn subframe symbol k =
    if is_shared port plan sfn subframe symbol k then Some (shared_value port plan sfn symbol k) else None

-- the PCFICH, PDCCH or PDSCH value at a resource element, or `None` if none of these channels occupies the element
abbrev pub system_if : Port → CellPlan → ℕ → ℕ → ℕ → ℕ → Option Cpx
system_if port plan sfn subframe symbol k =
    if is_indicator plan symbol k then Some (indicator_value port plan subframe symbol k)
    else (if is_control plan sfn subframe symbol k then Some (control_value port plan sfn symbol k)
    else (if is_shared port plan sfn subframe symbol k then Some (shared_value port plan sfn symbol k) else None))

-- the value of the first channel that occupies a resource element, or `None` if no channel does
abbrev pub channel_if : Port → CellPlan → ℕ → ℕ → ℕ → ℕ → Option Cpx
channel_if port plan sfn subframe symbol k =
    if has_broadcast port plan.identity subframe symbol k then Some (broadcast_value port plan sfn symbol k)
    else (if has_control port then system_if port plan sfn subframe symbol k else None)

-- the value at a resource element without signal and channel: the load's symbol, or 0 without load and in the
-- synchronisation signals' symbols
abbrev pub open_value : Option ℕ → Port → ℕ → ℕ → ℕ → ℕ → Cpx
open_value None port sfn subframe symbol k = nothing
open_value (Some load) port sfn subframe symbol k =
    if is_signal_symbol port subframe symbol then nothing else load_point load port sfn subframe symbol k

-- the bits of load number `load` in frame `sfn`, 2,016 for each subframe
unfoldable pub load_bits : ℕ → Port → ℕ → List Bool
load_bits load port sfn = values_below 20160 (λ n. gold_bit (load_c_init load port sfn (n / 2016)) (n % 2016))

-- The table gives the index of each resource element of a subframe in the list `places`, or the list's length for
-- elements that are not in the list.
pub record IsTableOf (places : List Place) (table : PlaceTable) : Type 0 where
  pub count : table.count ≡ length places
  pub number : (symbol k : ℕ) → symbol < 14 → k < subcarriers →
      slice_index_or table.numbers (subcarriers * symbol + k) 0 ≡ index_in places (place symbol k)

-- The layout holds the data that all frames of a plan share at a port: the synchronisation signals (`zero` and `five`:
-- the SSS in subframes 0 and 5), the channels' resource elements, and the PCFICH symbols of each subframe.
pub record IsLayout (port : Port) (plan : CellPlan) (layout : Layout) : Type 0 where
  pub primary : layout.primary ≡ pss_list (plan.identity % 3)
  pub zero : layout.zero ≡ sss_list (plan.identity / 3) (plan.identity % 3) Start
  pub five : layout.five ≡ sss_list (plan.identity / 3) (plan.identity % 3) Middle
  pub broadcast : IsTableOf (broadcast_places port plan.identity) layout.broadcast
  pub indicator : IsTableOf (pcfich_places plan.identity) layout.indicator
  pub indicators : layout.indicators ≡ values_below 10 (λ subframe. values_below 16 (indicator_point plan subframe))
  pub control : IsTableOf (control_places plan) layout.control
  pub control_count : layout.control.count ≡ 144
  pub shared : IsTableOf (assigned_places port.carrier plan) layout.shared
  pub shared_count : layout.shared.count ≤ 612

-- the PDCCH and PDSCH symbols that a plan transmits in frame `sfn`, which has system information
pub record IsCarried (plan : CellPlan) (sfn : ℕ) (carried : Carried) : Type 0 where
  pub control : carried.control ≡ values_below 144 (control_point plan sfn)
  pub shared : carried.shared ≡ values_below 612 (shared_point plan sfn)

-- the PDCCH and PDSCH symbols for each redundancy version, taken from frames 0, 2, 4 and 6
pub record AreVersions (plan : CellPlan) (versions : Versions) : Type 0 where
  pub first : IsCarried plan 0 versions.first
  pub second : IsCarried plan 2 versions.second
  pub third : IsCarried plan 4 versions.third
  pub fourth : IsCarried plan 6 versions.fourth
