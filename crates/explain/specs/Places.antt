-- The places at which cells were found. (own)
use Rattle.std.specs.Prelude.{◌&&◌, Bool, nat_eq, List}
use Rattle.std.specs.List.{list_any}
use Rattle.lte_types.specs.CellPlace.{Place}

-- whether two places have equal identities and starts
abbrev pub is_same_place : Place → Place → Bool
is_same_place a b = nat_eq a.id b.id && nat_eq a.start b.start

-- whether `place` is among the places found so far
abbrev pub is_met : List Place → Place → Bool
is_met places place = list_any (λ met. is_same_place met place) places
