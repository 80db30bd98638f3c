-- Resource element lists without repetitions.
use Rattle.std.proofs.Common.{◌≡◌, ℕ, ◌/◌, ◌%◌, ◌<◌, ◌≤◌, ◌⊎◌, inl, inr, Bool, true, false, List, length, get_or, refl, ap, sym, subst, ◌∙◌, arith}
use Rattle.std.specs.Prelude.{◌&&◌}
use Rattle.std.specs.List.{Contains}
use Rattle.std.proofs.lemmas.Bool.{cases_lt}
use Rattle.std.proofs.lemmas.Bool.Decides.{nat_tests}
use Rattle.std.proofs.lemmas.List.Sums.{position_or_len_is, passes_at_first}
use Rattle.std.proofs.lemmas.List.Elements.{All-get_or, All-weaker, Contains-get_or}
use Rattle.finite.proofs.Lists.{values_below_at}
use Rattle.lte_types.specs.declared.duration.Duration.{Duration}
use Rattle.lte_types.specs.declared.duration.Duration.TheVariants.{Normal, Extended}
use Rattle.lte_types.specs.declared.resource.Resource.{Resource}
use Rattle.lte_types.specs.declared.resource.Resource.TheVariants.{OneSixth, Half, One, Two}
use Rattle.grid_map.specs.declared.Place.{Place}
use Rattle.grid_map.specs.declared.Reg.{Reg}
use Rattle.grid_map.specs.Place.{place, same_place}
use Rattle.grid_map.specs.Broadcast.{pbch_places, pbch_place}
use Rattle.grid_map.specs.Group.{group, is_group, group_places}
use Rattle.grid_map.specs.Control.{pcfich_group, pcfich_groups, pcfich_places, pdcch_groups, group_number, quadruplet_at, is_in_region, group_count, element_count}
use Rattle.grid_map.specs.Candidate.{group_of_quadruplet, quadruplet_group, candidate_places}
use Rattle.lte_types.specs.declared.carrier.Carrier.{Carrier}
use Rattle.grid_map.specs.Shared.{shared_places_of, shared_place_of}
use Rattle.grid_map.specs.Laws.{IsIndexed, CarryCandidate}
use Rattle.grid_map.proofs.Order.{same_place-refl, same_place-true}
use Rattle.grid_map.proofs.Points.{length-pbch_places, places_apart as points_apart}
use Rattle.grid_map.proofs.Spans.{four_places, places_rise, places_apart}
use Rattle.grid_map.proofs.Regions.{pdcch_in_order, pdcch_count, pdcch_inside, pcfich_inside}
use Rattle.grid_map.proofs.Carried.{group_inside, group_carries}
use Rattle.grid_map.proofs.Symbols.{pdsch_once}
use Rattle.grid_map.proofs.Pieces.{length-pcfich_places, pcfich_place_at, length-candidate_places, candidate_place_at}

-- ---- indices

-- in a list without repetitions, each item's index is its position
pub indexed : (count : ℕ) (places : List Place) → length places ≡ count →
    ((i j : ℕ) → i < count → j < count → get_or places i (place 0 0) ≡ get_or places j (place 0 0) → i ≡ j) → IsIndexed count places
indexed count places size once = record {
  size = size;
  once = once;
  index = λ i inside. position_or_len_is (same_place (get_or places i (place 0 0))) places i (place 0 0) (omega (arith, size, inside))
      (λ k before. different i k inside before) (λ within. same_place-refl (get_or places i (place 0 0)));
  found = λ p few. sym (same_place-true p _ (passes_at_first (same_place p) places (place 0 0) (omega (arith, size, few))));
}
  where
    different : (i k : ℕ) → i < count → k < i → same_place (get_or places i (place 0 0)) (get_or places k (place 0 0)) ≡ false
    different i k inside before = cases (same_place (get_or places i (place 0 0)) (get_or places k (place 0 0))) refl
      where
        cases : (b : Bool) → same_place (get_or places i (place 0 0)) (get_or places k (place 0 0)) ≡ b → b ≡ false
        cases false e = refl
        cases true e = absurd (let same = once i k inside (omega (arith, inside, before)) (same_place-true _ _ e) in omega (arith, same, before))

pub pbch_indexed : (identity : ℕ) → IsIndexed 240 (pbch_places identity)
unfolding pbch_place
pbch_indexed identity = indexed 240 (pbch_places identity) (length-pbch_places identity) (points_apart identity)

-- ---- the resource elements in groups

-- groups share a resource element only if they are equal, and then at the same index
one_place : (identity : ℕ) (g h : Reg) (a b : ℕ) → is_group g ≡ true → is_group h ≡ true → a < 4 → b < 4 →
    get_or (group_places identity g) a (place 0 0) ≡ get_or (group_places identity h) b (place 0 0) → (g ≡ h) × (a ≡ b)
one_place identity g h a b is is' l m same = (groups, number)
  where
    first : Contains (group_places identity g) (get_or (group_places identity g) a (place 0 0))
    first = Contains-get_or (group_places identity g) a (place 0 0) (let four = four_places identity g is in omega (arith, four, l))

    second : Contains (group_places identity h) (get_or (group_places identity h) b (place 0 0))
    second = Contains-get_or (group_places identity h) b (place 0 0) (let four = four_places identity h is' in omega (arith, four, m))

    groups : g ≡ h
    groups = places_apart identity g h (get_or (group_places identity g) a (place 0 0)) is is' first (subst (Contains (group_places identity h)) (sym same) second)

    here : get_or (group_places identity g) a (place 0 0) ≡ get_or (group_places identity g) b (place 0 0)
    here = same ∙ ap (λ x. get_or (group_places identity x) b (place 0 0)) (sym groups)

    level : (get_or (group_places identity g) a (place 0 0)).k ≡ (get_or (group_places identity g) b (place 0 0)).k
    level = ap (λ (p : Place). p.k) here

    cases : (a < b) ⊎ (b ≤ a) → (b < a) ⊎ (a ≤ b) → a ≡ b
    cases (inl r) s = absurd (let rise = places_rise identity g a b is r m in omega (arith, rise, level))
    cases (inr r) (inl s) = absurd (let rise = places_rise identity g b a is s l in omega (arith, rise, level))
    cases (inr r) (inr s) = omega (arith, r, s)

    number : a ≡ b
    number = cases (cases_lt a b) (cases_lt b a)

-- ---- the PCFICH

one_pcfich_group : (identity i j : ℕ) → i < 4 → j < 4 → pcfich_group identity i ≡ pcfich_group identity j → i ≡ j
one_pcfich_group identity i j l m same = let first = ap (λ (g : Reg). g.first) same in omega (arith, first, l, m)

pcfich_group_at : (identity i : ℕ) → i < 4 → get_or (pcfich_groups identity) i (group 0 0) ≡ pcfich_group identity i
unfolding pcfich_groups
pcfich_group_at identity i l = values_below_at (pcfich_group identity) 4 i (group 0 0) l

pcfich_is_group : (identity i : ℕ) → i < 4 → is_group (pcfich_group identity i) ≡ true
unfolding pcfich_groups
pcfich_is_group identity i l = subst (λ g. is_group g ≡ true) (pcfich_group_at identity i l) (pcfich_inside identity i (group 0 0) l).0

pub pcfich_indexed : (identity : ℕ) → IsIndexed 16 (pcfich_places identity)
pcfich_indexed identity = indexed 16 (pcfich_places identity) (length-pcfich_places identity) once
  where
    at : (i : ℕ) → i < 16 → get_or (pcfich_places identity) i (place 0 0) ≡ get_or (group_places identity (pcfich_group identity (i / 4))) (i % 4) (place 0 0)
    at i l = pcfich_place_at identity i l ∙ ap (λ g. get_or (group_places identity g) (i % 4) (place 0 0)) (pcfich_group_at identity (i / 4) (omega (arith, l)))

    once : (i j : ℕ) → i < 16 → j < 16 → get_or (pcfich_places identity) i (place 0 0) ≡ get_or (pcfich_places identity) j (place 0 0) → i ≡ j
    once i j l m same =
        let both = one_place identity (pcfich_group identity (i / 4)) (pcfich_group identity (j / 4)) (i % 4) (j % 4)
        (pcfich_is_group identity (i / 4) (omega (arith, l))) (pcfich_is_group identity (j / 4) (omega (arith, m))) (omega arith) (omega arith)
        (sym (at i l) ∙ same ∙ at j m) in
        let group_same = one_pcfich_group identity (i / 4) (j / 4) (omega (arith, l)) (omega (arith, m)) both.0 in
        let number_same = both.1 in
        omega (arith, group_same, number_same)

-- ---- the candidate

pub candidate_indexed : (identity : ℕ) (groups : List Reg) → CarryCandidate groups → IsIndexed 144 (candidate_places identity groups)
candidate_indexed identity groups carry = indexed 144 (candidate_places identity groups) (length-candidate_places identity groups carry.enough carry.are) once
  where
    number : ℕ → ℕ
    number q = group_of_quadruplet identity (length groups) q

    inside : (q : ℕ) → q < 36 → number q < length groups
    inside q l = group_inside identity (length groups) q (let enough = carry.enough in omega (arith, enough, l))

    is_one : (q : ℕ) → q < 36 → is_group (quadruplet_group identity groups q) ≡ true
    is_one q l = All-get_or (λ g. is_group g ≡ true) groups (number q) (group 0 0) (inside q l) carry.are

    carries : (q r : ℕ) → q < 36 → r < 36 → number q ≡ number r → q ≡ r
    carries q r l m same =
        sym (group_carries identity (length groups) q (let enough = carry.enough in omega (arith, enough, l)))
        ∙ ap (quadruplet_at identity (length groups)) same
        ∙ group_carries identity (length groups) r (let enough = carry.enough in omega (arith, enough, m))

    at : (i : ℕ) → i < 144 → get_or (candidate_places identity groups) i (place 0 0) ≡ get_or (group_places identity (quadruplet_group identity groups (i / 4))) (i % 4) (place 0 0)
    at i l = candidate_place_at identity groups i carry.enough carry.are l

    once : (i j : ℕ) → i < 144 → j < 144 → get_or (candidate_places identity groups) i (place 0 0) ≡ get_or (candidate_places identity groups) j (place 0 0) → i ≡ j
    once i j l m same =
        let both = one_place identity (quadruplet_group identity groups (i / 4)) (quadruplet_group identity groups (j / 4)) (i % 4) (j % 4)
        (is_one (i / 4) (omega (arith, l))) (is_one (j / 4) (omega (arith, m))) (omega arith) (omega arith) (sym (at i l) ∙ same ∙ at j m) in
        let numbers = carry.once (number (i / 4)) (number (j / 4)) (inside (i / 4) (omega (arith, l))) (inside (j / 4) (omega (arith, m))) both.0 in
        let quadruplets = carries (i / 4) (j / 4) (omega (arith, l)) (omega (arith, m)) numbers in
        let places = both.1 in
        omega (arith, quadruplets, places)

-- ---- the PDCCH groups

count_fits : (cfi : ℕ) (duration : Duration) (resource : Resource) → 2 ≤ cfi → cfi ≤ 3 → (36 ≤ group_count cfi duration resource) × (group_count cfi duration resource ≤ 66)
count_fits cfi Normal OneSixth low high = (omega arith, omega arith)
count_fits cfi Normal Half low high = (omega arith, omega arith)
count_fits cfi Normal One low high = (omega arith, omega arith)
count_fits cfi Normal Two low high = (omega arith, omega arith)
count_fits cfi Extended OneSixth low high = (grind (arith, nat_tests), grind (arith, nat_tests))
count_fits cfi Extended Half low high = (grind (arith, nat_tests), grind (arith, nat_tests))
count_fits cfi Extended One low high = (grind (arith, nat_tests), grind (arith, nat_tests))
count_fits cfi Extended Two low high = (grind (arith, nat_tests), grind (arith, nat_tests))

-- with indicator 2 or 3 there are at least four control channel elements
pub elements_fit : (cfi : ℕ) (duration : Duration) (resource : Resource) → 2 ≤ cfi → cfi ≤ 3 → 4 ≤ element_count cfi duration resource
elements_fit cfi duration resource low high = let fits = count_fits cfi duration resource low high in omega (arith, fits.0)

first_of_two : (a b : Bool) → (a && b) ≡ true → a ≡ true
first_of_two true b h = refl
first_of_two false b h = h

pub pdcch_carry : (identity cfi : ℕ) (duration : Duration) (resource : Resource) → 2 ≤ cfi → cfi ≤ 3 → CarryCandidate (pdcch_groups identity cfi duration resource)
pdcch_carry identity cfi duration resource low high = record {
  enough = let size = count in let fits = count_fits cfi duration resource low high in omega (arith, size, fits.0);
  few = let size = count in let fits = count_fits cfi duration resource low high in omega (arith, size, fits.1);
  are = All-weaker (λ g. is_in_region cfi g ≡ true) (λ g. is_group g ≡ true) (λ g inside. first_of_two (is_group g) _ inside) groups (pdcch_inside identity cfi duration resource);
  once = λ i j l m same. cases i j l m same (cases_lt i j) (cases_lt j i);
}
  where
    groups : List Reg
    groups = pdcch_groups identity cfi duration resource

    count : length groups ≡ group_count cfi duration resource
    count = pdcch_count identity cfi duration resource (omega (arith, low)) high

    cases : (i j : ℕ) → i < length groups → j < length groups → get_or groups i (group 0 0) ≡ get_or groups j (group 0 0) → (i < j) ⊎ (j ≤ i) → (j < i) ⊎ (i ≤ j) → i ≡ j
    cases i j l m same (inl r) s =
        absurd (let rise = pdcch_in_order identity cfi duration resource i j r m in let level = ap group_number same in omega (arith, rise, level))
    cases i j l m same (inr r) (inl s) =
        absurd (let rise = pdcch_in_order identity cfi duration resource j i s l in let level = ap group_number same in omega (arith, rise, level))
    cases i j l m same (inr r) (inr s) = omega (arith, r, s)

-- ---- the PDSCH

pub shared_indexed : (carrier : Carrier) (identity cfi start blocks : ℕ) →
    IsIndexed (length (shared_places_of carrier identity cfi start blocks)) (shared_places_of carrier identity cfi start blocks)
unfolding shared_place_of
shared_indexed carrier identity cfi start blocks =
    indexed (length (shared_places_of carrier identity cfi start blocks)) (shared_places_of carrier identity cfi start blocks) refl (pdsch_once carrier identity cfi start blocks)
