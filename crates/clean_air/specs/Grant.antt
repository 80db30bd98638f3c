-- The soft values of the control channel determine the grant of SIB1 that was sent. (own; PDCCH, TS 36.211 section 6.8,
-- TS 36.212 sections 5.3.3.1.3 and 5.3.3.2)
use Rattle.std.specs.Prelude.{◌≡◌, ℕ, ◌≤◌, Bool, List, ℤ, Result, Ok}
use Rattle.cs_num.specs.declared.Cpx.{Cpx}
use Rattle.cs_bits.specs.Checks.{with_check_16, HasCheck16}
use Rattle.lte_types.specs.declared.sib1_reason.Sib1Reason.{Sib1Reason}
use Rattle.lte_types.specs.declared.duration.Duration.{Duration}
use Rattle.lte_types.specs.declared.resource.Resource.{Resource}
use Rattle.conv_code.specs.Reading.{summed}
use Rattle.grid_map.specs.declared.Place.{Place}
use Rattle.grid_map.specs.Control.{pdcch_groups, element_count}
use Rattle.grid_map.specs.Candidate.{candidate_places}
use Rattle.grid_map.specs.Scrambling.{pdcch_c_init}
use Rattle.dci.specs.declared.grant.Grant.{Grant}
use Rattle.dci.specs.Fields.{system_information_rnti}
use Rattle.dci.specs.Format1A.{IsGrant, sent_word}
use Rattle.soft_bits.specs.Soft.{SeenSlot}
use Rattle.pdcch.specs.Candidate.{candidate_values}
use Rattle.sib1_reader.specs.Control.{Grants}
use Rattle.cell_grid.specs.Block.{scrambled_bit}
use Rattle.clean_air.specs.Values.{IsSlotHeard}
use Rattle.clean_air.specs.Words.{SpeakInOrder, IsOnlyWord}
use Rattle.clean_air.specs.Carried.{ArePlacesHeard, CarryBits}

-- the 37 bits that are sent for a grant: its 21 bits and their CRC, masked by the SI-RNTI
abbrev pub grant_word : Grant → List Bool
grant_word grant = with_check_16 system_information_rnti (sent_word grant)

-- The soft values `candidate` of the first four control channel elements determine only `grant`: its word is the only
-- one of minimum cost, its CRC passes, and decoding returns `grant` and nothing else. `count` is the number of control
-- channel elements.
pub record IsOnlyGrant (count : ℕ) (candidate : List ℤ) (grant : Grant) : Type 0 where
  pub word : IsOnlyWord (summed 37 candidate) (grant_word grant)
  pub passes : HasCheck16 system_information_rnti (grant_word grant)
  pub decoded : Grants count candidate (Ok grant)
  pub only : (answer : Result Grant Sib1Reason) → Grants count candidate answer → answer ≡ Ok grant

-- a law: the descrambled soft values of the first four control channel elements determine the grant if each value has
-- its coded bit's sign, there are at least 111 values (the coded bits of a 37-bit word), and there are at least four
-- control channel elements
abbrev pub SentGrantIsDecoded : Type 0
SentGrantIsDecoded = (count : ℕ) (candidate : List ℤ) (grant : Grant) → IsGrant grant → 4 ≤ count →
    SpeakInOrder (grant_word grant) candidate → IsOnlyGrant count candidate grant

-- A slot determines a grant, for an indicator and the PHICH fields: there are at least four control channel elements,
-- and the 288 soft values of the first four have the signs of the grant's coded bits and determine the grant.
pub record DecodesGrant (slot : SeenSlot) (indicator : ℕ) (duration : Duration) (resource : Resource) (grant : Grant)
    : Type 0 where
  pub enough : 4 ≤ element_count indicator duration resource
  pub speak : SpeakInOrder (grant_word grant) (candidate_values slot indicator duration resource)
  pub decoded : IsOnlyGrant (element_count indicator duration resource)
      (candidate_values slot indicator duration resource) grant

-- the resource elements of the first four control channel elements in the subframe that begins with `slot`, and the
-- grant's scrambled coded bits there
abbrev pub grant_places : SeenSlot → ℕ → Duration → Resource → List Place
grant_places slot indicator duration resource =
    candidate_places slot.identity (pdcch_groups slot.identity indicator duration resource)

abbrev pub grant_scrambled : SeenSlot → Grant → ℕ → Bool
grant_scrambled slot grant = scrambled_bit (pdcch_c_init slot.identity slot.number) (grant_word grant)

-- a law: a slot determines a grant if the soft values of the first four control channel elements have the signs of the
-- grant's scrambled bits and the indicator is 2 or 3
abbrev pub HeardGrantIsDecoded : Type 0
HeardGrantIsDecoded =
    (slot : SeenSlot) (indicator : ℕ) (duration : Duration) (resource : Resource) (grant : Grant) →
    2 ≤ indicator → indicator ≤ 3 → IsGrant grant →
    ArePlacesHeard slot (grant_places slot indicator duration resource) (grant_scrambled slot grant) →
    DecodesGrant slot indicator duration resource grant

-- a law: a slot determines the grant that its control channel carries if its soft values are correct and the indicator
-- is 2 or 3
abbrev pub CarriedGrantIsDecoded : Type 0
CarriedGrantIsDecoded =
    (grids : ℕ → ℕ → Cpx) (slot : SeenSlot) (indicator : ℕ) (duration : Duration) (resource : Resource)
    (grant : Grant) → 2 ≤ indicator → indicator ≤ 3 → IsGrant grant → IsSlotHeard grids slot →
    CarryBits grids (grant_places slot indicator duration resource) (grant_scrambled slot grant) →
    DecodesGrant slot indicator duration resource grant
