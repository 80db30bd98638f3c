-- The resource elements of the control region are in the first slot, and all within the grid.
use Rattle.std.proofs.Common.{ℕ, ◌<◌, ◌≤◌, get_or, arith}
use Rattle.std.specs.Prelude.{All}
use Rattle.std.proofs.lemmas.List.Elements.{All-from_get_or}
use Rattle.lte_types.specs.declared.duration.Duration.{Duration}
use Rattle.lte_types.specs.declared.resource.Resource.{Resource}
use Rattle.grid_map.specs.declared.Place.{Place}
use Rattle.grid_map.specs.Place.{place}
use Rattle.grid_map.specs.Control.{pcfich_places, pdcch_groups}
use Rattle.grid_map.specs.Candidate.{candidate_places}
use Rattle.grid_map.proofs.Pieces.{length-pcfich_places}
use Rattle.grid_map.proofs.Indexed.{candidate_indexed, pdcch_carry}
use Rattle.grid_map.proofs.Apart.{IsInRegion, indicator_place, control_place}

-- a resource element of the first slot
abbrev pub IsInSlot : Place → Type 0
IsInSlot p = (p.symbol < 7) × (p.k < 72)

-- the control region has at most four symbols
in_region : (identity last : ℕ) (p : Place) → last ≤ 3 → IsInRegion identity last p → IsInSlot p
in_region identity last p few at = (let below = at.symbol in omega (arith, below, few), at.k)

pub pcfich_placed : (identity : ℕ) → All IsInSlot (pcfich_places identity)
pcfich_placed identity =
    All-from_get_or IsInSlot (pcfich_places identity) (place 0 0)
    (λ i l. in_region identity 0 (get_or (pcfich_places identity) i (place 0 0)) (omega arith) (indicator_place identity i (omega (arith, l, length-pcfich_places identity))))

pub candidate_placed : (identity cfi : ℕ) (duration : Duration) (resource : Resource) → 2 ≤ cfi → cfi ≤ 3 → All IsInSlot (candidate_places identity (pdcch_groups identity cfi duration resource))
candidate_placed identity cfi duration resource low high =
    let places = candidate_places identity (pdcch_groups identity cfi duration resource) in
    let size = (candidate_indexed identity _ (pdcch_carry identity cfi duration resource low high)).size in
    All-from_get_or IsInSlot places (place 0 0)
    (λ i l. in_region identity cfi (get_or places i (place 0 0)) high (control_place identity cfi duration resource low high i (omega (arith, l, size))))
