-- PBCH resource elements (TS 36.211 section 6.6.4): the first four symbols of slot 1 (7 to 10 of the subframe), except
-- the elements reserved for four antenna ports' reference signals.
use Rattle.std.specs.Prelude.{ℕ, ◌%◌, Bool, not, ◌&&◌, nat_eq, nat_lt, nat_le, List, filter, slice_index_or}
use Rattle.grid_map.specs.declared.Place.{Place}
use Rattle.grid_map.specs.Place.{place, places_of, index_in}
use Rattle.lte_types.specs.Numerology.{subcarriers}

-- whether the resource element `p` is reserved for reference signals: every third subcarrier in symbols 7 and 8, from
-- `shift`, the identity modulo 3
abbrev pub is_reserved : ℕ → Place → Bool
is_reserved shift p = nat_lt p.symbol 9 && nat_eq (p.k % 3) shift

-- the resource elements in symbols 7 to 10 that are not reserved, ordered by symbol, then by subcarrier
unfoldable pub free_places : ℕ → List Place
free_places shift = filter (λ p. not (is_reserved shift p)) (places_of 7 4)

-- the PBCH's 240 resource elements, ordered by symbol, then by subcarrier
unfoldable pub pbch_places : ℕ → List Place
pbch_places identity = free_places (identity % 3)

-- the resource element for PBCH modulation symbol i
unfoldable pub pbch_place : ℕ → ℕ → Place
pbch_place identity i = slice_index_or (pbch_places identity) i (place 0 0)

-- whether the resource element `p` is in symbols 7 to 10 and not reserved
abbrev pub is_free : ℕ → Place → Bool
is_free shift p =
    nat_le 7 p.symbol && nat_lt p.symbol 11 && nat_lt p.k subcarriers && not (is_reserved shift p)

-- whether the resource element `p` belongs to the PBCH
unfoldable pub is_pbch : ℕ → Place → Bool
is_pbch identity p = is_free (identity % 3) p

-- the index of the resource element `p` among the PBCH's resource elements, or 240 if `p` does not belong to the PBCH
unfoldable pub pbch_index : ℕ → Place → ℕ
pbch_index identity p = index_in (pbch_places identity) p
