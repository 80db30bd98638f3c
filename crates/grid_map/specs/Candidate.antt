-- The PDCCH candidate at aggregation level 4 in the common search space: control channel elements (CCE) 0 to 3, with
-- nine quadruplets each (TS 36.211 section 6.8.5, TS 36.213 section 9.1.1).
use Rattle.std.specs.Prelude.{ℕ, nat_eq, List, length, slice_index_or}
use Rattle.std.specs.List.{position_or_len, range_with_len, flat_map}
use Rattle.finite.specs.Lists.{values_below}
use Rattle.grid_map.specs.declared.Place.{Place}
use Rattle.grid_map.specs.declared.Reg.{Reg}
use Rattle.grid_map.specs.Group.{group, group_places}
use Rattle.grid_map.specs.Control.{quadruplet_at}

-- the index, below `count`, of the PDCCH resource-element group that carries quadruplet `q`
unfoldable pub group_of_quadruplet : ℕ → ℕ → ℕ → ℕ
group_of_quadruplet identity count q =
    position_or_len (λ r. nat_eq (quadruplet_at identity count r) q) (range_with_len 0 count)

-- the resource-element group, among the PDCCH groups `groups`, that carries quadruplet `q`
abbrev pub quadruplet_group : ℕ → List Reg → ℕ → Reg
quadruplet_group identity groups q =
    slice_index_or groups (group_of_quadruplet identity (length groups) q) (group 0 0)

-- the resource-element groups, among the PDCCH groups `groups`, that carry the candidate's quadruplets, 0 to 35, in
-- order
unfoldable pub candidate_groups : ℕ → List Reg → List Reg
candidate_groups identity groups = values_below 36 (quadruplet_group identity groups)

-- the candidate's 144 resource elements, in order
unfoldable pub candidate_places : ℕ → List Reg → List Place
candidate_places identity groups = flat_map (group_places identity) (candidate_groups identity groups)
