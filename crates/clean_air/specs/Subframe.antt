-- The soft values of a subframe whose two slots both have correct soft values. (own)
use Rattle.std.specs.Prelude.{◌≡◌, ℕ, ◌+◌, ◌*◌, ◌<◌, Bool, All, List, length, slice_index_or}
use Rattle.cs_num.specs.declared.Cpx.{Cpx}
use Rattle.lte_types.specs.declared.carrier.Carrier.TheVariants.{OnePort}
use Rattle.grid_map.specs.declared.Place.{Place}
use Rattle.grid_map.specs.Place.{place}
use Rattle.grid_map.specs.Shared.{shared_places_of}
use Rattle.grid_map.specs.Scrambling.{pdsch_c_init}
use Rattle.dci.specs.Fields.{system_information_rnti}
use Rattle.soft_bits.specs.Soft.{SeenSlot}
use Rattle.soft_bits.specs.Places.{in_subframe, placed_values}
use Rattle.pdsch.specs.Values.{shared_values}
use Rattle.cell_grid.specs.Points.{scrambled, point_of}
use Rattle.clean_air.specs.Values.{IsSlotHeard}
use Rattle.clean_air.specs.Carried.{AreHeard, ArePlacesHeardIn}
use Rattle.lte_types.specs.Numerology.{subcarriers}

-- ---- resource elements and their soft values

-- the soft values of a subframe's resource elements `places`, each in its slot, have the signs of `bits`
abbrev pub IsSubframeHeard : SeenSlot → SeenSlot → List Place → (ℕ → Bool) → Type 0
IsSubframeHeard first second places bits = ArePlacesHeardIn (in_subframe first second) places bits

-- the shared channel's bits after scrambling with the SI-RNTI, in the subframe that begins with slot `first` (TS 36.211
-- section 6.3.1)
abbrev pub shared_scrambled : SeenSlot → (ℕ → Bool) → ℕ → Bool
shared_scrambled first bits = scrambled (pdsch_c_init first.identity first.number system_information_rnti) bits

-- a law: the shared channel's soft values have the signs of the bits before scrambling, if its resource elements' soft
-- values have the signs of the scrambled bits
abbrev pub ValuesOfBlocksAreHeard : Type 0
ValuesOfBlocksAreHeard = (first second : SeenSlot) (cfi start blocks : ℕ) (bits : ℕ → Bool) →
    let places = shared_places_of OnePort first.identity cfi start blocks in
    IsSubframeHeard first second places (shared_scrambled first bits) →
    AreHeard 1 (2 * length places) bits (shared_values first second cfi start blocks)

-- ---- resource elements of a grid

-- Both slots of a subframe have correct soft values. The elements of symbols 0 to 13 of the subframe are `grids`.
pub record AreSlotsHeard (grids : ℕ → ℕ → Cpx) (first second : SeenSlot) : Type 0 where
  pub first_slot : IsSlotHeard grids first
  pub second_slot : IsSlotHeard (λ l. grids (7 + l)) second

-- the resource elements `places` of a subframe carry `bits`, two in each, as QPSK symbols
abbrev pub CarryInSubframe : (ℕ → ℕ → Cpx) → List Place → (ℕ → Bool) → Type 0
CarryInSubframe grids places bits = (i : ℕ) → i < length places →
    let p = slice_index_or places i (place 0 0) in grids p.symbol p.k ≡ point_of bits i

-- a law: in a subframe whose slots have correct soft values, the soft values of resource elements that carry bits have
-- the bits' signs
abbrev pub CarriedSubframeIsHeard : Type 0
CarriedSubframeIsHeard =
    (grids : ℕ → ℕ → Cpx) (first second : SeenSlot) (places : List Place) (bits : ℕ → Bool) →
    AreSlotsHeard grids first second → All (λ p. (p.symbol < 14) × (p.k < subcarriers)) places →
    CarryInSubframe grids places bits →
    AreHeard 1 (2 * length places) bits (placed_values (in_subframe first second) places)

-- a law: in a subframe whose slots have correct soft values, and whose shared channel carries scrambled bits, the
-- shared channel's soft values have the signs of the bits before scrambling
abbrev pub CarriedBlocksAreHeard : Type 0
CarriedBlocksAreHeard =
    (grids : ℕ → ℕ → Cpx) (first second : SeenSlot) (cfi start blocks : ℕ) (bits : ℕ → Bool) →
    let places = shared_places_of OnePort first.identity cfi start blocks in
    AreSlotsHeard grids first second → CarryInSubframe grids places (shared_scrambled first bits) →
    AreHeard 1 (2 * length places) bits (shared_values first second cfi start blocks)
