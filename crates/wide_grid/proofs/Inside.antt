-- Lists of resource elements inside the subframe.
use Rattle.std.proofs.Common.{ℕ, ◌*◌, ◌/◌, ◌<◌, Bool, List, arith}
use Rattle.std.specs.List.{All}
use Rattle.std.proofs.Math.Nat.{mod-lt}
use Rattle.std.proofs.lemmas.Nat.{rows}
use Rattle.std.proofs.lemmas.List.Elements.{All-filter}
use Rattle.finite.proofs.Lists.{values_below-All}
use Rattle.wide_cell.specs.declared.place.WidePlace.{WidePlace}
use Rattle.wide_cell.specs.Cell.{Cell}
use Rattle.wide_cell.specs.Place.{place}
use Rattle.wide_grid.specs.Pdsch.{is_pdsch, place_at, pdsch_places}

abbrev Inside : Cell → WidePlace → Type 0
Inside cell p = (p.symbol < 14) × (p.k < 12 * cell.blocks)

div_below : (n m : ℕ) → 0 < m → n < 14 * m → n / m < 14
div_below n m some l = grind (arith, rows)

pub pdsch_inside : (cell : Cell) (cfi : ℕ) (first second : List Bool) → 0 < cell.blocks →
    All (Inside cell) (pdsch_places cell cfi first second)
unfolding pdsch_places
pdsch_inside cell cfi first second some =
    All-filter (is_pdsch cell cfi first second) (Inside cell) _
    (values_below-All (Inside cell) (14 * (12 * cell.blocks)) (place_at cell) (place 0 0)
    (λ n l. (div_below n (12 * cell.blocks) (omega arith) l, mod-lt n (omega arith))))
