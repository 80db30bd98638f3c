-- The soft values of a subframe's resource elements, each in its slot, have the signs of the bits that they carry.
use Rattle.std.proofs.Common.{◌≡◌, ℕ, ◌+◌, ◌*◌, ◌%◌, ◌<◌, ◌≤◌, arith, refl, subst, Bool, true, false, List, get_or}
use Rattle.std.specs.Prelude.{All, nat_lt, if◌then◌else◌}
use Rattle.std.proofs.lemmas.Bool.{ltb-true, ltb-false}
use Rattle.cs_num.specs.declared.Cpx.{Cpx}
use Rattle.crs.specs.Qpsk.{point}
use Rattle.lte_types.specs.declared.carrier.Carrier.TheVariants.{OnePort}
use Rattle.grid_map.specs.declared.Place.{Place}
use Rattle.grid_map.specs.Place.{place}
use Rattle.grid_map.specs.Shared.{shared_places_of}
use Rattle.grid_map.specs.Scrambling.{pdsch_c_init}
use Rattle.dci.specs.Fields.{system_information_rnti}
use Rattle.grid_map.proofs.Apart.{shared_symbols}
use Rattle.soft_bits.specs.Soft.{SeenSlot, soft_values}
use Rattle.soft_bits.specs.Places.{slot_with, in_subframe}
use Rattle.pdsch.specs.Values.{shared_values_by}
use Rattle.cell_grid.specs.Points.{point_of}
use Rattle.clean_air.specs.Values.{SupportBoth}
use Rattle.clean_air.specs.Carried.{CarryBits}
use Rattle.clean_air.specs.Subframe.{IsSubframeHeard, shared_scrambled, ValuesOfBlocksAreHeard, AreSlotsHeard, CarryInSubframe, CarriedSubframeIsHeard, CarriedBlocksAreHeard}
use Rattle.clean_air.proofs.Speaking.{values_of_places_are_heard, scrambled_places_are_heard}

pub values_of_blocks_are_heard : ValuesOfBlocksAreHeard
unfolding shared_values_by
values_of_blocks_are_heard first second cfi start blocks bits heard =
    scrambled_places_are_heard (pdsch_c_init first.identity first.number system_information_rnti) (in_subframe first second) (shared_places_of OnePort first.identity cfi start blocks) bits heard

-- ---- resource elements of a grid

module _ (grids : ℕ → ℕ → Cpx) (first second : SeenSlot) (heard : AreSlotsHeard grids first second) where
  -- each resource element of the subframe has correct soft values in its slot
  element_heard : (symbol k : ℕ) (a b : Bool) → symbol < 14 → k < 72 → grids symbol k ≡ point a b → SupportBoth 1 a b (soft_values (slot_with first second symbol) (symbol % 7) k)
  element_heard symbol k a b few inside carry = settle (nat_lt symbol 7) refl
    where
      settle : (early : Bool) → nat_lt symbol 7 ≡ early → SupportBoth 1 a b (soft_values (if early then first else second) (symbol % 7) k)
      settle true e =
          let low : symbol < 7 = ltb-true symbol 7 e in
          let same : symbol ≡ symbol % 7 = omega (arith, low) in
          heard.first_slot (symbol % 7) k a b (omega arith) inside (subst (λ n. grids n k ≡ point a b) same carry)
      settle false e =
          let high : 7 ≤ symbol = ltb-false symbol 7 e in
          let same : symbol ≡ 7 + symbol % 7 = omega (arith, high, few) in
          heard.second_slot (symbol % 7) k a b (omega arith) inside (subst (λ n. grids n k ≡ point a b) same carry)

  carried_subframe : (places : List Place) (bits : ℕ → Bool) → All (λ p. (p.symbol < 14) × (p.k < 72)) places → CarryInSubframe grids places bits → IsSubframeHeard first second places bits
  carried_subframe places bits inside carry i l =
      let p = get_or places i (place 0 0) in
      let at = inside i (place 0 0) l in
      element_heard p.symbol p.k (bits (2 * i)) (bits (2 * i + 1)) at.0 at.1 (carry i l)

pub carried_subframe_is_heard : CarriedSubframeIsHeard
carried_subframe_is_heard grids first second places bits heard inside carry =
    values_of_places_are_heard (in_subframe first second) places bits (carried_subframe grids first second heard places bits inside carry)

pub carried_blocks_are_heard : CarriedBlocksAreHeard
carried_blocks_are_heard grids first second cfi start blocks bits heard carry =
    values_of_blocks_are_heard first second cfi start blocks bits
    (carried_subframe grids first second heard (shared_places_of OnePort first.identity cfi start blocks) (shared_scrambled first bits) (shared_symbols OnePort first.identity cfi start blocks) carry)

-- ---- resource elements of the first slot

pub carried_in_slot : (grids : ℕ → ℕ → Cpx) (places : List Place) (bits : ℕ → Bool) → All (λ p. (p.symbol < 7) × (p.k < 72)) places → CarryInSubframe grids places bits → CarryBits grids places bits
carried_in_slot grids places bits inside carry i l =
    let p = get_or places i (place 0 0) in
    let at = inside i (place 0 0) l in
    let same : p.symbol ≡ p.symbol % 7 = omega (arith, at.0) in
    subst (λ n. grids n p.k ≡ point_of bits i) same (carry i l)
