-- The PDSCH's resource elements symbol by symbol, as the code computes them.
use Rattle.std.specs.Prelude.{ℕ, ◌+◌, ◌*◌, ◌/◌, ◌%◌, nat_eq, if◌then◌else◌}
use Rattle.lte_types.specs.declared.carrier.Carrier.{Carrier}
use Rattle.crs.specs.Reference.{pattern_of, pattern_first}
use Rattle.grid_map.specs.Place.{skipping}
use Rattle.grid_map.specs.Shared.{slot_symbols, pilots_of_block}

-- the subcarrier of PDSCH resource element `n` in a symbol, relative to the first allocated subcarrier; `pilots` is the
-- number of reference signals per resource block, and `first` the first subcarrier of port 0's. With two reference
-- signals per block the PDSCH uses five of each six subcarriers, with four it uses two of each three.
abbrev pub offset_by : ℕ → ℕ → ℕ → ℕ
offset_by pilots first n =
    if nat_eq pilots 0 then n
    else (if nat_eq pilots 2 then 6 * (n / 5) + skipping first (n % 5)
    else 3 * (n / 2) + skipping (first % 3) (n % 2))

-- the subcarrier of PDSCH resource element `n` in a symbol of the subframe, relative to the first allocated subcarrier
abbrev pub offset : Carrier → ℕ → ℕ → ℕ → ℕ
offset carrier identity symbol n =
    offset_by (pilots_of_block carrier (symbol % slot_symbols carrier))
    (pattern_first (pattern_of carrier 0) identity (symbol % slot_symbols carrier)) n
