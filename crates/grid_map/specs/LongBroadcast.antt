-- PBCH resource elements with the extended cyclic prefix (TS 36.211 section 6.6.4): symbols 0 to 3 of slot 1, except
-- the elements reserved for four antenna ports' reference signals.
use Rattle.std.specs.Prelude.{ℕ, ◌%◌, Bool, not, ◌&&◌, nat_eq, List, filter}
use Rattle.grid_map.specs.declared.Place.{Place}
use Rattle.grid_map.specs.Place.{places_of}

-- whether the resource element `p` is reserved for reference signals: every third subcarrier in symbols 0, 1 and 3,
-- from `shift`, the identity modulo 3
abbrev pub is_kept : ℕ → Place → Bool
is_kept shift p = not (nat_eq p.symbol 2) && nat_eq (p.k % 3) shift

-- the resource elements in symbols 0 to 3 that are not reserved, ordered by symbol, then by subcarrier
unfoldable pub free_places : ℕ → List Place
free_places shift = filter (λ p. not (is_kept shift p)) (places_of 0 4)

-- the PBCH's 216 resource elements in slot 1, ordered by symbol, then by subcarrier
unfoldable pub long_places : ℕ → List Place
long_places identity = free_places (identity % 3)
