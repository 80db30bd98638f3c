use Rattle.std.proofs.Common.{◌≡◌, filter}
use Rattle.finite.specs.Lists.{values_below}
use Rattle.wide_grid.specs.Pdsch.{is_pdsch as is_pdsch_of, place_at as place_at_of}
use Rattle.wide_grid.proofs.pdsch.pdsch_places.Given as goal

abbrev pub invariant-loop-n : goal.invariant-loop-n
invariant-loop-n l =
    l.places.items ≡ filter (is_pdsch_of l.cell l.cfi l.first l.second) (values_below l.n (place_at_of l.cell))
