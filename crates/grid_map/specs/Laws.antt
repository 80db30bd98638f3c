-- Laws on resource element lists, and on the resource-element groups in them.
use Rattle.std.specs.Prelude.{◌≡◌, ℕ, ◌<◌, ◌≤◌, IsTrue, List, length, slice_index_or, All}
use Rattle.grid_map.specs.declared.Place.{Place}
use Rattle.grid_map.specs.declared.Reg.{Reg}
use Rattle.grid_map.specs.Place.{place, index_in}
use Rattle.grid_map.specs.Group.{group, is_group}

-- `places` has `count` different resource elements, and each index below `count` and its resource element determine
-- each other
pub record IsIndexed (count : ℕ) (places : List Place) : Type 0 where
  pub size : length places ≡ count
  pub once : (i j : ℕ) → i < count → j < count →
      slice_index_or places i (place 0 0) ≡ slice_index_or places j (place 0 0) → i ≡ j
  pub index : (i : ℕ) → i < count → index_in places (slice_index_or places i (place 0 0)) ≡ i
  pub found : (p : Place) → index_in places p < count → slice_index_or places (index_in places p) (place 0 0) ≡ p

-- `groups` can carry the PDCCH candidate: 36 to 66 different valid resource-element groups
pub record CarryCandidate (groups : List Reg) : Type 0 where
  pub enough : 36 ≤ length groups
  pub few : length groups ≤ 66
  pub are : All (λ g. IsTrue (is_group g)) groups
  pub once : (i j : ℕ) → i < length groups → j < length groups →
      slice_index_or groups i (group 0 0) ≡ slice_index_or groups j (group 0 0) → i ≡ j
