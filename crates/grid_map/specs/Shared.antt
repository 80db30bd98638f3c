-- PDSCH resource elements in subframe 5 (TS 36.211 section 6.4).
use Rattle.std.specs.Prelude.{ℕ, zero, suc, ◌+◌, ◌-◌, ◌*◌, ◌/◌, ◌%◌, Bool, not, ◌&&◌, ◌||◌, nat_eq, nat_lt, nat_le, if◌then◌else◌, List, filter, slice_index_or}
use Rattle.lte_types.specs.declared.carrier.Carrier.{Carrier}
use Rattle.lte_types.specs.Carrier.{prefix_of, ports_of}
use Rattle.lte_types.specs.Numerology.{symbols_of_slot}
use Rattle.crs.specs.Reference.{pattern_of, has_pilots}
use Rattle.crs.specs.Ports.{is_reference_of_any}
use Rattle.grid_map.specs.declared.Place.{Place}
use Rattle.grid_map.specs.Place.{place, places_of}

-- the number of symbols in a slot
abbrev pub slot_symbols : Carrier → ℕ
slot_symbols carrier = symbols_of_slot (prefix_of carrier)

-- the number of symbols in a subframe, which has two slots
abbrev pub subframe_symbols : Carrier → ℕ
subframe_symbols carrier = 2 * slot_symbols carrier

-- whether a symbol of subframe 5 has synchronisation signals: the last two symbols in its first slot do. The PDSCH
-- leaves these symbols out completely (own: on all 72 subcarriers)
abbrev pub is_synchronisation : Carrier → ℕ → Bool
is_synchronisation carrier symbol =
    nat_eq symbol (slot_symbols carrier - 2) || nat_eq symbol (slot_symbols carrier - 1)

-- whether subcarrier `k` is in one of the `blocks` resource blocks from `start`
abbrev pub is_in_blocks : ℕ → ℕ → ℕ → Bool
is_in_blocks start blocks k = nat_le (12 * start) k && nat_lt k (12 * (start + blocks))

-- whether the resource element `p` in subframe 5 (slots 10 and 11) carries a reference signal of any antenna port
abbrev pub is_pilot_of : Carrier → ℕ → Place → Bool
is_pilot_of carrier identity p =
    is_reference_of_any carrier identity (10 + p.symbol / slot_symbols carrier) (p.symbol % slot_symbols carrier) p.k

-- whether the resource element `p` carries the PDSCH: it is in the subframe after the control region, not in a symbol
-- with synchronisation signals, not a reference signal, and in one of the allocated resource blocks
abbrev pub is_shared_of : Carrier → ℕ → ℕ → ℕ → ℕ → Place → Bool
is_shared_of carrier identity cfi start blocks p =
    nat_lt cfi p.symbol && nat_lt p.symbol (subframe_symbols carrier) && not (is_synchronisation carrier p.symbol)
    && not (is_pilot_of carrier identity p) && is_in_blocks start blocks p.k

-- the PDSCH's resource elements, ordered by symbol, then by subcarrier
unfoldable pub shared_places_of : Carrier → ℕ → ℕ → ℕ → ℕ → List Place
shared_places_of carrier identity cfi start blocks =
    filter (is_shared_of carrier identity cfi start blocks) (places_of 0 (subframe_symbols carrier))

-- the resource element for PDSCH modulation symbol `i`
unfoldable pub shared_place_of : Carrier → ℕ → ℕ → ℕ → ℕ → ℕ → Place
shared_place_of carrier identity cfi start blocks i =
    slice_index_or (shared_places_of carrier identity cfi start blocks) i (place 0 0)

-- ---- resource elements per resource block

-- the number of reference signals per resource block in a symbol of a slot: two per antenna port that sends there.
-- Ports 0 and 1 send in symbols 0 and N_symb - 3, ports 2 and 3 in symbol 1.
abbrev pub pilots_of_block : Carrier → ℕ → ℕ
pilots_of_block carrier symbol =
    if has_pilots (pattern_of carrier 0) symbol then (if nat_lt 1 (ports_of carrier) then 4 else 2)
    else (if nat_eq symbol 1 && nat_lt 2 (ports_of carrier) then 4 else 0)

-- the number of PDSCH resource elements per resource block in a symbol after the control region
abbrev pub block_room : Carrier → ℕ → ℕ
block_room carrier symbol =
    if is_synchronisation carrier symbol then 0 else 12 - pilots_of_block carrier (symbol % slot_symbols carrier)

-- the number of PDSCH resource elements per resource block in `count` symbols from `first`, after the control region
abbrev pub block_rooms : Carrier → ℕ → ℕ → ℕ
block_rooms carrier first zero = 0
block_rooms carrier first (suc count) = block_room carrier first + block_rooms carrier (first + 1) count

-- the number of PDSCH resource elements per resource block in subframe 5, for a control format indicator of 2 or 3; the
-- control region has `cfi` + 1 symbols
abbrev pub block_places_of : Carrier → ℕ → ℕ
block_places_of carrier cfi =
    if nat_eq cfi 2 then block_rooms carrier 3 (subframe_symbols carrier - 3)
    else block_rooms carrier 4 (subframe_symbols carrier - 4)
