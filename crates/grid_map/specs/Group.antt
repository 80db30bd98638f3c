-- The resource-element groups of the control region, the first symbols of a subframe (TS 36.211 section 6.2.4).
use Rattle.std.specs.Prelude.{ℕ, ◌+◌, ◌*◌, ◌/◌, ◌%◌, Bool, not, ◌&&◌, nat_eq, nat_lt, nat_le, if◌then◌else◌, List, map, filter}
use Rattle.std.specs.List.{range_with_len}
use Rattle.finite.specs.Lists.{values_below}
use Rattle.grid_map.specs.declared.Place.{Place}
use Rattle.grid_map.specs.declared.Reg.{Reg}
use Rattle.grid_map.specs.Place.{place}
use Rattle.lte_types.specs.Numerology.{subcarriers}

-- the resource-element group in `symbol` whose span begins at subcarrier `first`
abbrev pub group : ℕ → ℕ → Reg
group symbol first = record { symbol = symbol; first = first }

-- the number of subcarriers that a resource-element group spans: six in symbol 0, of which two are reserved for
-- reference signals, and four in every other symbol
abbrev pub span : ℕ → ℕ
span symbol = if nat_eq symbol 0 then 6 else 4

-- whether the resource-element group `g` is valid: it begins, inside the carrier, at a multiple of its span in symbols
-- 0 to 3
abbrev pub is_group : Reg → Bool
is_group g = nat_lt g.symbol 4 && nat_lt g.first subcarriers && nat_eq (g.first % span g.symbol) 0

-- whether the resource-element groups `g` and `h` are the same
abbrev pub same_group : Reg → Reg → Bool
same_group g h = nat_eq g.symbol h.symbol && nat_eq g.first h.first

-- the resource-element groups of a symbol, in order of subcarrier
unfoldable pub symbol_groups : ℕ → List Reg
symbol_groups symbol = values_below (subcarriers / span symbol) (λ n. group symbol (span symbol * n))

-- whether the resource element `p` is reserved for reference signals: every third subcarrier in symbol 0, from the
-- identity modulo 3
abbrev pub is_kept : ℕ → Place → Bool
is_kept identity p = nat_eq p.symbol 0 && nat_eq (p.k % 3) (identity % 3)

-- all resource elements in the span of a resource-element group, reserved ones included
abbrev pub spanned : Reg → List Place
spanned g = map (place g.symbol) (range_with_len g.first (span g.symbol))

-- the resource elements of a resource-element group, in order of subcarrier: its span without the reserved ones
unfoldable pub group_places : ℕ → Reg → List Place
group_places identity g = filter (λ p. not (is_kept identity p)) (spanned g)

-- whether the resource element `p` is in the span of the resource-element group `g` and not reserved
abbrev pub is_of_group : ℕ → Reg → Place → Bool
is_of_group identity g p =
    nat_eq p.symbol g.symbol && nat_le g.first p.k && nat_lt p.k (g.first + span g.symbol) && not (is_kept identity p)
