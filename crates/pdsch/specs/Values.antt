-- The PDSCH soft values for SystemInformationBlockType1, in the two slots of subframe 5 (TS 36.211 sections 6.3.1 and
-- 6.4).
use Rattle.std.specs.Prelude.{ℕ, List, ℤ}
use Rattle.lte_types.specs.declared.carrier.Carrier.{Carrier}
use Rattle.lte_types.specs.declared.carrier.Carrier.TheVariants.{OnePort}
use Rattle.grid_map.specs.Shared.{shared_places_of}
use Rattle.grid_map.specs.Scrambling.{pdsch_c_init}
use Rattle.dci.specs.Fields.{system_information_rnti}
use Rattle.soft_bits.specs.Soft.{SeenSlot}
use Rattle.soft_bits.specs.Places.{Valuing, in_subframe, placed_values, descrambled}

-- the descrambled PDSCH soft values of `blocks` resource blocks from block `start` on. `values` is the method that
-- computes soft values of resource elements. The scrambling sequence starts with the subframe and continues through
-- both slots.
unfoldable pub shared_values_by : Carrier → Valuing → SeenSlot → SeenSlot → ℕ → ℕ → ℕ → List ℤ
shared_values_by carrier values first second cfi start blocks =
    descrambled (pdsch_c_init first.identity first.number system_information_rnti) 0
    (values (in_subframe first second) (shared_places_of carrier first.identity cfi start blocks))

-- the descrambled PDSCH soft values of a number of resource blocks from a start block on, with one antenna port
abbrev pub shared_values : SeenSlot → SeenSlot → ℕ → ℕ → ℕ → List ℤ
shared_values = shared_values_by OnePort placed_values
