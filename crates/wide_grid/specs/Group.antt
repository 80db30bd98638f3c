-- The resource-element groups of the control region, the first symbols of a subframe, at any bandwidth (TS 36.211
-- section 6.2.4).
use Rattle.std.specs.Prelude.{ℕ, ◌<◌, ◌+◌, ◌*◌, ◌/◌, ◌%◌, Bool, not, ◌&&◌, ◌||◌, nat_eq, nat_lt, nat_le, if◌then◌else◌, IsTrue, All, List, map, filter}
use Rattle.std.specs.List.{range_with_len, list_any}
use Rattle.finite.specs.Lists.{values_below}
use Rattle.wide_cell.specs.declared.place.WidePlace.{WidePlace}
use Rattle.wide_cell.specs.Cell.{Cell, subcarriers}
use Rattle.wide_cell.specs.Place.{place}
use Rattle.wide_grid.specs.declared.group.WideReg.{WideReg}

-- the resource-element group in `symbol` whose span begins at subcarrier `first`
abbrev pub group : ℕ → ℕ → WideReg
group symbol first = record { symbol = symbol; first = first }

-- the number of symbols in the control region (TS 36.212 section 5.3.4): the control format indicator, and one more if
-- the cell has at most ten resource blocks
abbrev pub region : Cell → ℕ → ℕ
region cell cfi = if nat_le cell.blocks 10 then cfi + 1 else cfi

-- whether the groups of a symbol leave out the subcarriers of reference signals: in symbol 0 the subcarriers of ports 0
-- and 1, whatever the port count, and in symbol 1 the subcarriers of ports 2 and 3, if the cell has four ports
abbrev pub has_reference : ℕ → ℕ → Bool
has_reference ports symbol = nat_eq symbol 0 || (nat_eq symbol 1 && nat_eq ports 4)

-- the number of subcarriers that a group of a symbol spans
abbrev pub span : ℕ → ℕ → ℕ
span ports symbol = if has_reference ports symbol then 6 else 4

-- the groups in a symbol, by subcarrier
unfoldable pub symbol_groups : Cell → ℕ → List WideReg
symbol_groups cell symbol =
    values_below (subcarriers cell.blocks / span cell.ports symbol) (λ n. group symbol (span cell.ports symbol * n))

-- whether a group is valid: in symbols 0 to 3, from a subcarrier that is a multiple of the span
abbrev pub is_group : Cell → WideReg → Bool
is_group cell g =
    nat_lt g.symbol 4 && nat_lt g.first (subcarriers cell.blocks) && nat_eq (g.first % span cell.ports g.symbol) 0

-- whether the resource-element groups `g` and `h` are the same
abbrev pub same_group : WideReg → WideReg → Bool
same_group g h = nat_eq g.symbol h.symbol && nat_eq g.first h.first

-- whether a group is in a list
abbrev pub is_group_in : List WideReg → WideReg → Bool
is_group_in groups g = list_any (same_group g) groups

-- whether the resource element `p` is reserved for reference signals: every third subcarrier, from the identity modulo
-- 3, in symbols with `has_reference`
abbrev pub is_reserved : Cell → WidePlace → Bool
is_reserved cell p = has_reference cell.ports p.symbol && nat_eq (p.k % 3) (cell.identity % 3)

-- a group's resource elements, by subcarrier
unfoldable pub group_places : Cell → WideReg → List WidePlace
group_places cell g =
    filter (λ p. not (is_reserved cell p)) (map (place g.symbol) (range_with_len g.first (span cell.ports g.symbol)))

-- valid groups
abbrev pub AreGroups : Cell → List WideReg → Type 0
AreGroups cell groups = All (λ g. IsTrue (is_group cell g)) groups

-- resource elements of the cell's subframe
abbrev pub AreInside : Cell → List WidePlace → Type 0
AreInside cell places = All (λ p. (p.symbol < 14) × (p.k < subcarriers cell.blocks)) places
