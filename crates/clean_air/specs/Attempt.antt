-- The attempt to read SIB1 from a subframe whose soft values have the signs of an indicator's and a grant's bits. (own)
use Rattle.std.specs.Prelude.{◌≡◌, ℕ, ◌≤◌, Some, Result}
use Rattle.cs_num.specs.declared.Cpx.{Cpx}
use Rattle.lte_types.specs.declared.sib1.Sib1.{Sib1}
use Rattle.lte_types.specs.declared.sib1_reason.Sib1Reason.{Sib1Reason}
use Rattle.lte_types.specs.declared.duration.Duration.{Duration}
use Rattle.lte_types.specs.declared.resource.Resource.{Resource}
use Rattle.grid_map.specs.Control.{pcfich_places}
use Rattle.dci.specs.declared.grant.Grant.{Grant}
use Rattle.dci.specs.Format1A.{IsGrant}
use Rattle.soft_bits.specs.Soft.{SeenSlot}
use Rattle.pcfich.specs.Indicator.{Speak}
use Rattle.sib1_reader.specs.declared.reading.Attempt.{Attempt}
use Rattle.sib1_reader.specs.Subframe.{Subframe, one_port}
use Rattle.sib1_reader.specs.Block.{Decodes}
use Rattle.sib1_reader.specs.Attempt.{IsAttempt, Reads}
use Rattle.clean_air.specs.Values.{IsSlotHeard}
use Rattle.clean_air.specs.Words.{SpeakInOrder}
use Rattle.clean_air.specs.Carried.{ArePlacesHeard}
use Rattle.clean_air.specs.Subframe.{CarryInSubframe}
use Rattle.clean_air.specs.Indicator.{indicator_scrambled}
use Rattle.clean_air.specs.Grant.{grant_word, grant_places, grant_scrambled}

-- The soft values of a subframe's control region have the signs of an indicator's bits and a grant's coded bits. The
-- indicator is 1 to 3. `enough`: there are at least four control channel elements.
pub record SpeakOfGrant (values : Subframe) (indicator : ℕ) (grant : Grant) : Type 0 where
  pub range : (1 ≤ indicator) × (indicator ≤ 3)
  pub is_grant : IsGrant grant
  pub enough : 4 ≤ values.elements indicator
  pub of_indicator : Speak values.indicator indicator
  pub of_control : SpeakInOrder (grant_word grant) (values.candidate indicator)

-- `attempt` has found `indicator` and `grant`, and its answer is decoded from the grant's resource blocks.
pub record HasGrant (values : Subframe) (indicator : ℕ) (grant : Grant) (attempt : Attempt) : Type 0 where
  pub cfi : attempt.cfi ≡ indicator
  pub granted : attempt.grant ≡ Some grant
  pub decodes : Decodes (values.shared indicator grant.start grant.blocks) grant attempt.answer

-- A subframe with soft values `values` is read with an indicator and a grant: each attempt on the subframe finds both,
-- and the answer decoded from the grant's resource blocks is the subframe's answer.
pub record IsReadWith (values : Subframe) (indicator : ℕ) (grant : Grant) : Type 0 where
  pub attempt : (attempt : Attempt) → IsAttempt values attempt → HasGrant values indicator grant attempt
  pub reads : (answer : Result Sib1 Sib1Reason) →
      Decodes (values.shared indicator grant.start grant.blocks) grant answer → Reads values answer

-- a law: a subframe is read with an indicator and a grant if the soft values of the subframe's control region have the
-- signs of the indicator's and the grant's bits (`SpeakOfGrant`)
abbrev pub SpokenGrantIsRead : Type 0
SpokenGrantIsRead = (values : Subframe) (indicator : ℕ) (grant : Grant) → SpeakOfGrant values indicator grant →
    IsReadWith values indicator grant

-- a law: a subframe is read with an indicator, 2 or 3, and a grant if the first slot's soft values for both have their
-- scrambled bits' signs
abbrev pub HeardGrantIsRead : Type 0
HeardGrantIsRead =
    (first second : SeenSlot) (indicator : ℕ) (duration : Duration) (resource : Resource) (grant : Grant) →
    2 ≤ indicator → indicator ≤ 3 → IsGrant grant →
    ArePlacesHeard first (pcfich_places first.identity) (indicator_scrambled first indicator) →
    ArePlacesHeard first (grant_places first indicator duration resource) (grant_scrambled first grant) →
    IsReadWith (one_port first second duration resource) indicator grant

-- a law: a subframe is read with the indicator, 2 or 3, and the grant that its first slot carries, if the first slot
-- has correct soft values
abbrev pub CarriedGrantIsRead : Type 0
CarriedGrantIsRead =
    (grids : ℕ → ℕ → Cpx) (first second : SeenSlot) (indicator : ℕ) (duration : Duration) (resource : Resource)
    (grant : Grant) → 2 ≤ indicator → indicator ≤ 3 → IsGrant grant → IsSlotHeard grids first →
    CarryInSubframe grids (pcfich_places first.identity) (indicator_scrambled first indicator) →
    CarryInSubframe grids (grant_places first indicator duration resource) (grant_scrambled first grant) →
    IsReadWith (one_port first second duration resource) indicator grant
