-- Resource elements in a subframe: symbols 0 to 13, subcarriers 0 to 71 (TS 36.211 section 6.2.2).
use Rattle.std.specs.Prelude.{ℕ, ◌+◌, ◌*◌, Bool, ◌&&◌, nat_eq, nat_lt, if◌then◌else◌, List, map}
use Rattle.std.specs.List.{range_with_len, flat_map, position_or_len}
use Rattle.grid_map.specs.declared.Place.{Place}
use Rattle.lte_types.specs.Numerology.{subcarriers}

-- the resource element in `symbol` on subcarrier `k`
abbrev pub place : ℕ → ℕ → Place
place symbol k = record { symbol = symbol; k = k }

-- all resource elements in a symbol, in order of subcarrier
abbrev pub symbol_places : ℕ → List Place
symbol_places symbol = map (place symbol) (range_with_len 0 subcarriers)

-- all resource elements in `count` symbols from `first`, ordered by symbol, then by subcarrier
unfoldable pub places_of : ℕ → ℕ → List Place
places_of first count = flat_map symbol_places (range_with_len first count)

-- whether the resource element `p` is in the subframe
abbrev pub is_in_grid : Place → Bool
is_in_grid p = nat_lt p.symbol 14 && nat_lt p.k subcarriers

-- a resource element's number, which orders elements by symbol, then by subcarrier: 72 times the symbol, plus the
-- subcarrier
abbrev pub place_number : Place → ℕ
place_number p = subcarriers * p.symbol + p.k

-- whether the resource elements `p` and `q` are the same
abbrev pub same_place : Place → Place → Bool
same_place p q = nat_eq p.symbol q.symbol && nat_eq p.k q.k

-- a resource element's index in a list, or the list's length if it is absent
abbrev pub index_in : List Place → Place → ℕ
index_in places p = position_or_len (same_place p) places

-- the `n`th natural number other than `reserved`, counted from 0
abbrev pub skipping : ℕ → ℕ → ℕ
skipping reserved n = if nat_lt n reserved then n else n + 1
