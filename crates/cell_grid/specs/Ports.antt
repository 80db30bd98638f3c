-- Signals and channel symbols at each antenna port. A cell has one port, with either cyclic prefix, or two or four
-- ports with transmit diversity (TS 36.211 sections 6.3.3, 6.3.4, 6.10.1, 6.11 and 6.12).
use Rattle.std.specs.Prelude.{◌≡◌, ℕ, ◌+◌, ◌-◌, ◌*◌, ◌/◌, ◌%◌, ◌<◌, Bool, not, ◌&&◌, nat_eq, nat_lt}
use Rattle.std.specs.Prelude.{if◌then◌else◌}
use Rattle.cs_num.specs.declared.Cpx.{Cpx}
use Rattle.cs_num.specs.Complex.{nothing, negated, conjugate}
use Rattle.lte_types.specs.declared.carrier.Carrier.{Carrier}
use Rattle.lte_types.specs.declared.carrier.Carrier.TheVariants.{OnePort, TwoPorts, LongPrefix, FourPorts}
use Rattle.lte_types.specs.declared.numerology.Prefix.{Prefix}
use Rattle.lte_types.specs.Carrier.{prefix_of, ports_of, has_control_by}
use Rattle.lte_types.specs.Numerology.{symbols_of_slot, is_extended}
use Rattle.crs.specs.declared.pattern.Pattern.{Pattern}
use Rattle.crs.specs.Reference.{pattern_of, pattern_reference}
use Rattle.crs.specs.Ports.{is_reference_by, is_reference_of_any}
use Rattle.cell_grid.specs.declared.antenna.Port.{Port}

-- ---- the ports of each transmission scheme

-- port `number` of a transmission scheme
abbrev pub port_by : Carrier → ℕ → Port
port_by carrier number = record { carrier = carrier; number = number }

-- the port has transmission scheme `carrier`, and its number is below the scheme's port count
abbrev pub IsPortOf : Carrier → Port → Type 0
IsPortOf carrier port = (port.carrier ≡ carrier) × (port.number < ports_of carrier)

abbrev pub only_port : Port
only_port = port_by OnePort 0

abbrev pub first_port : Port
first_port = port_by TwoPorts 0

abbrev pub second_port : Port
second_port = port_by TwoPorts 1

abbrev pub long_port : Port
long_port = port_by LongPrefix 0

abbrev pub port_of_four : ℕ → Port
port_of_four number = port_by FourPorts number

-- ---- properties of the transmission scheme

-- the port's cyclic prefix
abbrev pub port_prefix : Port → Prefix
port_prefix port = prefix_of port.carrier

-- the number of symbols in a slot: 7, or 6 with the extended cyclic prefix
abbrev pub port_symbols : Port → ℕ
port_symbols port = symbols_of_slot (port_prefix port)

-- the slot number in the frame, 0 to 19, that contains a symbol of a subframe
abbrev pub port_slot : Port → ℕ → ℕ → ℕ
port_slot port subframe symbol = 2 * subframe + symbol / port_symbols port

-- the reference signal pattern of port 0 in the port's transmission scheme (TS 36.211 section 6.10.1)
abbrev pub first_pattern : Port → Pattern
first_pattern port = pattern_of port.carrier 0

-- the number of PBCH bits in a frame: two for each of 240 resource elements, or of 216 with the extended cyclic prefix
-- (TS 36.211 section 6.6.1)
abbrev pub port_block_bits : Port → ℕ
port_block_bits port = if is_extended (port_prefix port) then 432 else 480

-- whether the cell transmits a control region and system information (own)
abbrev pub has_control : Port → Bool
has_control port = has_control_by port.carrier

-- the mask of the MIB's CRC, by the number of ports (TS 36.212 section 5.3.1.1)
abbrev pub mask_by : Carrier → ℕ
mask_by carrier = if nat_eq (ports_of carrier) 1 then 0 else (if nat_eq (ports_of carrier) 2 then 65535 else 21845)

abbrev pub port_mask : Port → ℕ
port_mask port = mask_by port.carrier

-- ---- transmitted values

-- the second port's symbol `i` under transmit diversity (TS 36.211 section 6.3.4.3): for a pair x, y the port transmits
-- -conj(y), conj(x)
abbrev pub crossed_point : (ℕ → Cpx) → ℕ → Cpx
crossed_point points i =
    if nat_eq (i % 2) 0 then negated (conjugate (points (i + 1))) else conjugate (points (i - 1))

-- symbol `i` of port `number` under transmit diversity: unchanged for ports below `half`, and the crossed symbol for
-- the other ports
abbrev pub paired_point : ℕ → ℕ → (ℕ → Cpx) → ℕ → Cpx
paired_point half number points i = if nat_lt number half then points i else crossed_point points i

-- the symbol `z` at index `i`, or 0 if the other pair of ports transmits it: with four ports, ports 0 and 2 transmit
-- the even pairs, and ports 1 and 3 the odd pairs
abbrev pub in_turn : ℕ → ℕ → Cpx → Cpx
in_turn number i z = if nat_eq (i / 2 % 2) (number % 2) then z else nothing

-- The symbol that a port transmits at index `i` in a channel. With one port, it is the channel's own symbol. With two
-- ports, port 0 transmits a pair x, y and port 1 transmits -conj(y), conj(x). With four ports, ports 0 and 2 do this
-- with the even pairs, and ports 1 and 3 with the odd pairs; a port transmits 0 in the pairs of other ports (TS 36.211
-- section 6.3.4.3; own: without its factor).
abbrev pub sent_point : Port → (ℕ → Cpx) → ℕ → Cpx
sent_point port points i =
    if nat_eq (ports_of port.carrier) 1 then points i
    else (if nat_eq (ports_of port.carrier) 2 then paired_point 1 port.number points i
    else in_turn port.number i (paired_point 2 port.number points i))

-- the value of a synchronisation signal at a port: only port 0 transmits the signal (own)
abbrev pub sent_signal : Port → Cpx → Cpx
sent_signal port z = if nat_eq port.number 0 then z else nothing

-- ---- reference signals

-- whether a resource element in a slot carries the port's own reference signal
abbrev pub is_own_reference : Port → ℕ → ℕ → ℕ → ℕ → Bool
is_own_reference port identity slot symbol k = is_reference_by port.carrier port.number identity slot symbol k

-- whether a resource element in a slot carries only another port's reference signal, so that the port transmits nothing
-- there
abbrev pub is_other_reference : Port → ℕ → ℕ → ℕ → ℕ → Bool
is_other_reference port identity slot symbol k =
    not (is_own_reference port identity slot symbol k) && is_reference_of_any port.carrier identity slot symbol k

-- the reference signal at a resource element of a slot; all ports of a cell share one sequence (TS 36.211 section
-- 6.10.1.1)
abbrev pub port_reference : Port → ℕ → ℕ → ℕ → ℕ → Cpx
port_reference port identity slot symbol k = pattern_reference (first_pattern port) identity slot symbol (k / 6)
