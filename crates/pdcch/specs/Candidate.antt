-- The soft values of control channel elements 0 to 3 in a subframe's first slot (TS 36.211 section 6.8).
use Rattle.std.specs.Prelude.{ℕ, List, ℤ, Option, Some, None, nat_lt, if◌then◌else◌}
use Rattle.lte_types.specs.declared.duration.Duration.{Duration}
use Rattle.lte_types.specs.declared.resource.Resource.{Resource}
use Rattle.grid_map.specs.declared.Reg.{Reg}
use Rattle.grid_map.specs.Control.{pdcch_groups, element_count}
use Rattle.grid_map.specs.Candidate.{candidate_places}
use Rattle.grid_map.specs.Scrambling.{pdcch_c_init}
use Rattle.soft_bits.specs.Soft.{SeenSlot}
use Rattle.soft_bits.specs.Places.{Valuing, placed_values, descrambled}

-- the 288 descrambled soft values of control channel elements 0 to 3 in `slot`, if the PDCCH occupies the resource
-- element groups `groups`. `values` is the method that computes soft values of resource elements.
unfoldable pub stream_values_by : Valuing → SeenSlot → List Reg → List ℤ
stream_values_by values slot groups =
    descrambled (pdcch_c_init slot.identity slot.number) 0 (values (λ p. slot) (candidate_places slot.identity groups))

-- the 288 descrambled soft values of control channel elements 0 to 3 in `slot`, for a control format indicator and a
-- PHICH configuration. `values` is the method that computes soft values of resource elements.
abbrev pub candidate_values_by : Valuing → SeenSlot → ℕ → Duration → Resource → List ℤ
candidate_values_by values slot indicator duration resource =
    stream_values_by values slot (pdcch_groups slot.identity indicator duration resource)

-- the 288 descrambled soft values of control channel elements 0 to 3 in `slot`, or `None` if there are fewer than four
-- elements. `values` is the method that computes soft values of resource elements.
unfoldable pub candidate_if_by : Valuing → SeenSlot → ℕ → Duration → Resource → Option (List ℤ)
candidate_if_by values slot indicator duration resource =
    if nat_lt (element_count indicator duration resource) 4 then None
    else Some (candidate_values_by values slot indicator duration resource)

-- the 288 descrambled soft values of control channel elements 0 to 3 in a slot, with one antenna port
abbrev pub candidate_values : SeenSlot → ℕ → Duration → Resource → List ℤ
candidate_values = candidate_values_by placed_values
