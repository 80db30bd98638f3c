-- The PDCCH candidates of the common search space (TS 36.213 section 9.1.1), at any bandwidth.
use Rattle.std.specs.Prelude.{ℕ, ◌+◌, ◌*◌, Bool, nat_le, List, [], ◌∷◌, slice_index_or}
use Rattle.finite.specs.Lists.{joined_below}
use Rattle.wide_cell.specs.declared.place.WidePlace.{WidePlace}
use Rattle.wide_cell.specs.Cell.{Cell}
use Rattle.wide_grid.specs.declared.candidate.Candidate.{Candidate}
use Rattle.wide_grid.specs.declared.group.WideReg.{WideReg}
use Rattle.wide_grid.specs.Group.{group, group_places}

-- the candidate of an aggregation level that begins at a control channel element
abbrev pub candidate : ℕ → ℕ → Candidate
candidate level first = record { level = level; first = first }

-- the candidates, in the order in which a receiver tries them (own)
abbrev pub candidates : List Candidate
candidates =
    candidate 8 0 ∷ candidate 8 8 ∷ candidate 4 0 ∷ candidate 4 4 ∷ candidate 4 8 ∷ candidate 4 12 ∷ []

-- whether a PDCCH with `count` control channel elements has a candidate
abbrev pub has_candidate : ℕ → Candidate → Bool
has_candidate count c = nat_le (c.first + c.level) count

-- a candidate's resource elements, from the groups in quadruplet order; a control channel element has nine quadruplets
unfoldable pub candidate_places : Cell → List WideReg → Candidate → List WidePlace
candidate_places cell groups c =
    joined_below (9 * c.level) (λ j. group_places cell (slice_index_or groups (9 * c.first + j) (group 0 0)))
