-- The descrambled soft values of subframe 5 from which system information is read.
use Rattle.std.specs.Prelude.{ℕ, List, ℤ}
use Rattle.lte_types.specs.declared.duration.Duration.{Duration}
use Rattle.lte_types.specs.declared.resource.Resource.{Resource}
use Rattle.grid_map.specs.Control.{element_count}
use Rattle.lte_types.specs.declared.carrier.Carrier.{Carrier}
use Rattle.lte_types.specs.declared.carrier.Carrier.TheVariants.{OnePort}
use Rattle.soft_bits.specs.Soft.{SeenSlot}
use Rattle.soft_bits.specs.Places.{Valuing, placed_values}
use Rattle.pcfich.specs.Values.{indicator_values_by}
use Rattle.pdcch.specs.Candidate.{candidate_values_by}
use Rattle.pdsch.specs.Values.{shared_values_by}

-- the descrambled soft values of a subframe, and the number of its control channel elements
pub record Subframe : Type 0 where
  -- the 32 PCFICH soft values
  pub indicator : List ℤ
  -- the number of control channel elements, by control format indicator
  pub elements : ℕ → ℕ
  -- the 288 PDCCH soft values of control channel elements 0 to 3, by control format indicator
  pub candidate : ℕ → List ℤ
  -- the PDSCH soft values, by control format indicator, first resource block and number of resource blocks
  pub shared : ℕ → ℕ → ℕ → List ℤ

-- a subframe's soft values, from its two slots and the MIB's PHICH configuration, for a transmission scheme. `values`
-- is the method that computes soft values of resource elements.
abbrev pub subframe_by : Carrier → Valuing → SeenSlot → SeenSlot → Duration → Resource → Subframe
subframe_by carrier values first second duration resource = record {
  indicator = indicator_values_by values first;
  elements = λ indicator. element_count indicator duration resource;
  candidate = λ indicator. candidate_values_by values first indicator duration resource;
  shared = shared_values_by carrier values first second;
}

-- a subframe's soft values, from its two slots and the MIB's PHICH configuration, with one antenna port
abbrev pub one_port : SeenSlot → SeenSlot → Duration → Resource → Subframe
one_port = subframe_by OnePort placed_values
