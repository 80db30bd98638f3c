-- The PDSCH's resource elements in subframe 5, at any bandwidth (TS 36.211 sections 6.3.5 and 6.4).
use Rattle.std.specs.Prelude.{ℕ, ◌+◌, ◌-◌, ◌*◌, ◌/◌, ◌%◌, Bool, false, not, ◌&&◌, ◌||◌, nat_eq, nat_le, nat_lt, if◌then◌else◌, List, filter, slice_index_or}
use Rattle.finite.specs.Lists.{values_below}
use Rattle.crs.specs.Reference.{port_0, port_1, is_pattern_place, is_upper_reference}
use Rattle.wide_cell.specs.declared.place.WidePlace.{WidePlace}
use Rattle.wide_cell.specs.Cell.{Cell, subcarriers}
use Rattle.wide_cell.specs.Place.{place}
use Rattle.wide_grid.specs.Group.{region}

-- whether a resource element carries a reference signal of antenna port 0 or 1 (section 6.10.1.2)
abbrev pub is_lower_reference : Cell → WidePlace → Bool
is_lower_reference cell p =
    is_pattern_place port_0 cell.identity (p.symbol % 7) p.k
    || (nat_lt 1 cell.ports && is_pattern_place port_1 cell.identity (p.symbol % 7) p.k)

-- whether a resource element of slots 10 and 11 carries a reference signal of antenna port 2 or 3
abbrev pub is_upper : Cell → WidePlace → Bool
is_upper cell p =
    nat_eq cell.ports 4
    && (is_upper_reference 2 cell.identity (10 + p.symbol / 7) (p.symbol % 7) p.k
    || is_upper_reference 3 cell.identity (10 + p.symbol / 7) (p.symbol % 7) p.k)

-- whether a resource element is reserved for the synchronisation signals: the middle 72 subcarriers of symbols 5 and 6;
-- the five at either end carry no signal, but are reserved too (sections 6.11.1.2 and 6.11.2.2). If the number of
-- resource blocks is odd, two blocks are reserved by half.
abbrev pub is_synchronisation : Cell → WidePlace → Bool
is_synchronisation cell p =
    (nat_eq p.symbol 5 || nat_eq p.symbol 6) && nat_le (6 * cell.blocks - 36) p.k && nat_lt p.k (6 * cell.blocks + 36)

-- whether a resource element is in a resource block that is allocated in the element's slot; `first` states for each
-- block whether slot 10 has it allocated, `second` whether slot 11 has
abbrev pub is_allocated : List Bool → List Bool → WidePlace → Bool
is_allocated first second p = slice_index_or (if nat_lt p.symbol 7 then first else second) (p.k / 12) false

-- whether a resource element belongs to the PDSCH of the allocated blocks
abbrev pub is_pdsch : Cell → ℕ → List Bool → List Bool → WidePlace → Bool
is_pdsch cell cfi first second p =
    nat_le (region cell cfi) p.symbol && (is_allocated first second p && not (is_synchronisation cell p)
    && not (is_lower_reference cell p) && not (is_upper cell p))

-- the resource element with number n in the subframe: by symbol, then subcarrier
abbrev pub place_at : Cell → ℕ → WidePlace
place_at cell n = place (n / subcarriers cell.blocks) (n % subcarriers cell.blocks)

-- the PDSCH's resource elements, by symbol, then subcarrier
unfoldable pub pdsch_places : Cell → ℕ → List Bool → List Bool → List WidePlace
pdsch_places cell cfi first second =
    filter (is_pdsch cell cfi first second) (values_below (14 * subcarriers cell.blocks) (place_at cell))
