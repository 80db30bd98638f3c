-- The candidate's soft values, if there are at least four elements.
use Rattle.std.proofs.Common.{◌≡◌, ℕ, ◌<◌, ◌≤◌, Bool, true, false, List, Some, None, ℤ, refl}
use Rattle.std.specs.Prelude.{nat_lt, if◌then◌else◌}
use Rattle.std.proofs.lemmas.Bool.{lt-ltb, le-ltb, ltb-true, ltb-false}
use Rattle.lte_types.specs.declared.duration.Duration.{Duration}
use Rattle.lte_types.specs.declared.resource.Resource.{Resource}
use Rattle.grid_map.specs.Control.{element_count}
use Rattle.soft_bits.specs.Soft.{SeenSlot}
use Rattle.soft_bits.specs.Places.{Valuing}
use Rattle.pdcch.specs.Candidate.{candidate_values_by, candidate_if_by}

pub too_few : (by : Valuing) (slot : SeenSlot) (indicator : ℕ) (duration : Duration) (resource : Resource) → element_count indicator duration resource < 4 →
    None ≡ candidate_if_by by slot indicator duration resource
unfolding candidate_if_by
too_few by slot indicator duration resource few = rw (lt-ltb (element_count indicator duration resource) 4 few) refl

pub enough : (by : Valuing) (slot : SeenSlot) (indicator : ℕ) (duration : Duration) (resource : Resource) (values : List ℤ) → 4 ≤ element_count indicator duration resource →
    values ≡ candidate_values_by by slot indicator duration resource → Some values ≡ candidate_if_by by slot indicator duration resource
unfolding candidate_if_by
enough by slot indicator duration resource values many is = rw (is, le-ltb (element_count indicator duration resource) 4 many) refl

-- `values` is the candidate, and there are at least four elements
pub record IsCandidate (by : Valuing) (slot : SeenSlot) (indicator : ℕ) (duration : Duration) (resource : Resource) (values : List ℤ) : Type 0 where
  pub many : 4 ≤ element_count indicator duration resource
  pub is : values ≡ candidate_values_by by slot indicator duration resource

pub some_decodes : (by : Valuing) (slot : SeenSlot) (indicator : ℕ) (duration : Duration) (resource : Resource) (values : List ℤ) →
    Some values ≡ candidate_if_by by slot indicator duration resource → IsCandidate by slot indicator duration resource values
unfolding candidate_if_by
some_decodes by slot indicator duration resource values found = settle (nat_lt (element_count indicator duration resource) 4) refl found
  where
    settle : (few : Bool) → nat_lt (element_count indicator duration resource) 4 ≡ few →
        Some values ≡ (if few then None else Some (candidate_values_by by slot indicator duration resource)) → IsCandidate by slot indicator duration resource values
    settle true e f = absurd cc
    settle false e f = record { many = ltb-false (element_count indicator duration resource) 4 e; is = cc }

pub none_decodes : (by : Valuing) (slot : SeenSlot) (indicator : ℕ) (duration : Duration) (resource : Resource) →
    None ≡ candidate_if_by by slot indicator duration resource → element_count indicator duration resource < 4
unfolding candidate_if_by
none_decodes by slot indicator duration resource found = settle (nat_lt (element_count indicator duration resource) 4) refl found
  where
    settle : (few : Bool) → nat_lt (element_count indicator duration resource) 4 ≡ few →
        None ≡ (if few then None else Some (candidate_values_by by slot indicator duration resource)) → element_count indicator duration resource < 4
    settle true e f = ltb-true (element_count indicator duration resource) 4 e
    settle false e f = absurd cc
