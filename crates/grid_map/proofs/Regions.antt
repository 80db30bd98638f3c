-- The groups of PCFICH, PHICH and PDCCH. All depend on the identity modulo 24 only, so they are computed for all
-- identities.
use Rattle.std.proofs.Common.{ℕ, ◌+◌, ◌-◌, ◌*◌, ◌/◌, ◌%◌, ◌<◌, ◌≤◌, ◌≡◌, Bool, true, false, not, ◌&&◌, cond, nat_eq, nat_le, List, [], ◌∷◌, ◌++◌, filter, length, get_or, refl, append_assoc, length-append, ap, ap₂, sym, ◌∙◌, subst, arith}
use Rattle.std.specs.List.{All, range_with_len, AllPairs}
use Rattle.std.proofs.lemmas.Bool.{eqb-true, leb-true, and_parts}
use Rattle.std.proofs.lemmas.Bool.Decides.{nat_tests}
use Rattle.std.proofs.lemmas.List.{append-nil}
use Rattle.std.proofs.lemmas.List.Folds.{list_any_at}
use Rattle.std.proofs.lemmas.List.Kept.{AllPairs-filter}
use Rattle.std.proofs.lemmas.List.Elements.{All-filter, All-map, filter-append, filter_passes}
use Rattle.std.proofs.Math.Bool.{and-false}
use Rattle.finite.specs.Lists.{values_below, joined_below}
use Rattle.finite.specs.Tests.{every_below}
use Rattle.finite.proofs.Tests.{every_below_at}
use Rattle.finite.proofs.Lists.{values_below_more, values_below_at, values_below-length, values_below_same, joined_below_none, joined_below_more, joined_below_same}
use Rattle.lte_types.specs.declared.duration.Duration.{Duration}
use Rattle.lte_types.specs.declared.duration.Duration.TheVariants.{Normal, Extended}
use Rattle.lte_types.specs.declared.resource.Resource.{Resource}
use Rattle.lte_types.specs.declared.resource.Resource.TheVariants.{OneSixth, Half, One, Two}
use Rattle.std.proofs.lemmas.Option.{slice_get-get_or}
use Rattle.grid_map.specs.declared.Reg.{Reg}
use Rattle.grid_map.specs.Place.{skipping}
use Rattle.grid_map.specs.Group.{is_group, group, same_group, symbol_groups}
use Rattle.grid_map.specs.Control.{pcfich_group, is_group_in, without, pcfich_groups, left_groups, left_count, phich_count, phich_symbol, phich_number, phich_group_in, phich_group, phich_groups}
use Rattle.grid_map.specs.Control.{numbered, group_number, is_in_region, region_groups, pdcch_groups, phich_inside, group_count}
use Rattle.grid_map.specs.Order.{AreInOrder}
use Rattle.grid_map.proofs.Members.{members_by}
use Rattle.grid_map.proofs.Kept.{any-filter, length-filter_within}

-- ---- periodicity

pub pcfich_repeats : (identity : ℕ) → pcfich_groups identity ≡ pcfich_groups (identity % 24)
unfolding pcfich_groups
pcfich_repeats identity = let e : identity % 24 % 12 ≡ identity % 12 = omega arith in rw e refl

pub left_repeats : (identity symbol : ℕ) → left_groups identity symbol ≡ left_groups (identity % 24) symbol
unfolding left_groups
left_repeats identity symbol = ap (λ taken. without taken (symbol_groups symbol)) (pcfich_repeats identity)

-- ---- the groups that the PCFICH does not use

-- the count of unused groups, and group j
abbrev pub some_left : ℕ → ℕ
some_left symbol = cond (nat_eq symbol 0) 8 18

abbrev pub nth_left : ℕ → ℕ → ℕ → Reg
nth_left shift symbol j = group symbol (cond (nat_eq symbol 0) (6 * (3 * (j / 2) + skipping shift (j % 2))) (4 * j))

left_test : ℕ → ℕ → Bool
left_test symbol s =
    nat_eq (length (left_groups s symbol)) (some_left symbol)
    && every_below (some_left symbol) (λ j. same_group (get_or (left_groups s symbol) j (group 0 0)) (nth_left (s % 3) symbol j))

left_checked : every_below 3 (λ symbol. every_below 24 (left_test symbol)) ≡ true
unfolding every_below left_test left_groups pcfich_groups symbol_groups
left_checked = refl

pub same_group-true : (g h : Reg) → same_group g h ≡ true → g ≡ h
same_group-true g h same =
    let parts = and_parts (nat_eq g.symbol h.symbol) (nat_eq g.first h.first) same in
    ap₂ group (eqb-true _ _ parts.0) (eqb-true _ _ parts.1)

pub same_group-refl : (g : Reg) → same_group g g ≡ true
same_group-refl g = grind (arith, nat_tests)

left_parts : (symbol s : ℕ) → symbol < 3 → s < 24 →
    (length (left_groups s symbol) ≡ some_left symbol)
    × ((j : ℕ) → j < some_left symbol → get_or (left_groups s symbol) j (group 0 0) ≡ nth_left (s % 3) symbol j)
unfolding left_test
left_parts symbol s l m =
    let here = every_below_at 24 (left_test symbol) (every_below_at 3 (λ symbol. every_below 24 (left_test symbol)) left_checked symbol l) s m in
    let parts = and_parts (nat_eq (length (left_groups s symbol)) (some_left symbol)) _ here in
    (eqb-true _ _ parts.0, λ j k. same_group-true _ _ (every_below_at (some_left symbol) (λ j. same_group (get_or (left_groups s symbol) j (group 0 0)) (nth_left (s % 3) symbol j)) parts.1 j k))

pub left_count-is : (identity symbol : ℕ) → symbol < 3 → left_count identity symbol ≡ some_left symbol
left_count-is identity symbol l = ap (λ (gs : List Reg). length gs) (left_repeats identity symbol) ∙ (left_parts symbol (identity % 24) l (omega arith)).0

pub left_at : (identity symbol j : ℕ) → symbol < 3 → j < some_left symbol → get_or (left_groups identity symbol) j (group 0 0) ≡ nth_left (identity % 3) symbol j
left_at identity symbol j l m =
    let e : identity % 24 % 3 ≡ identity % 3 = omega arith in
    ap (λ (gs : List Reg). get_or gs j (group 0 0)) (left_repeats identity symbol) ∙ (left_parts symbol (identity % 24) l (omega arith)).1 j m
    ∙ ap (λ shift. nth_left shift symbol j) e

-- ---- the PHICH groups

pub phich_in-is : (identity symbol m i : ℕ) → symbol < 3 →
    phich_group_in identity symbol m i ≡ get_or (left_groups identity symbol) (phich_number identity (some_left symbol) 8 m i) (group 0 0)
unfolding phich_group_in
phich_in-is identity symbol m i l = rw (left_count-is identity symbol l, left_count-is identity 0 (omega arith)) refl

number_repeats : (identity symbol m i : ℕ) → phich_number identity (some_left symbol) 8 m i ≡ phich_number (identity % 24) (some_left symbol) 8 m i
number_repeats identity symbol m i = cases (nat_eq symbol 0)
  where
    cases : (b : Bool) → phich_number identity (cond b 8 18) 8 m i ≡ phich_number (identity % 24) (cond b 8 18) 8 m i
    cases true = omega arith
    cases false =
        let q : ℕ = identity / 24 in
        let a : (identity * 18) / 8 ≡ q * 54 + (identity % 24 * 18) / 8 = omega arith in
        rw a (omega arith)

phich_in_repeats : (identity symbol m i : ℕ) → symbol < 3 → phich_group_in identity symbol m i ≡ phich_group_in (identity % 24) symbol m i
phich_in_repeats identity symbol m i l =
    phich_in-is identity symbol m i l
    ∙ ap₂ (λ (gs : List Reg) (n : ℕ). get_or gs n (group 0 0)) (left_repeats identity symbol) (number_repeats identity symbol m i)
    ∙ sym (phich_in-is (identity % 24) symbol m i l)

phich_symbol-below : (duration : Duration) (i : ℕ) → i < 3 → phich_symbol duration i < 3
phich_symbol-below Normal i l = omega arith
phich_symbol-below Extended i l = l

-- the resource-element groups for `count` PHICH groups
unfoldable pub phich_by : ℕ → Duration → ℕ → List Reg
phich_by identity duration count = joined_below count (λ m. values_below 3 (phich_group identity duration m))

phich_by-repeats : (identity count : ℕ) (duration : Duration) → phich_by identity duration count ≡ phich_by (identity % 24) duration count
unfolding phich_by
phich_by-repeats identity count duration =
    joined_below_same count (λ m. values_below 3 (phich_group identity duration m)) (λ m. values_below 3 (phich_group (identity % 24) duration m))
    (λ m l. values_below_same 3 (phich_group identity duration m) (phich_group (identity % 24) duration m)
    (λ i k. phich_in_repeats identity (phich_symbol duration i) m i (phich_symbol-below duration i k)))

-- the resource-element groups for the first m PHICH groups
pub record ArePhich (identity : ℕ) (duration : Duration) (m : ℕ) (groups : List Reg) : Type 0 where
  pub groups_are : groups ≡ phich_by identity duration m
  pub count : length groups ≡ 3 * m

pub phich_none : (identity : ℕ) (duration : Duration) (groups : List Reg) → groups ≡ [] → ArePhich identity duration 0 groups
unfolding phich_by
phich_none identity duration groups e = rw e (record { groups_are = sym (joined_below_none _); count = refl })

pub phich_more : (identity : ℕ) (duration : Duration) (m : ℕ) (groups after : List Reg) (a b c : Reg) →
    a ∷ b ∷ c ∷ [] ≡ values_below 3 (phich_group identity duration m) → after ≡ groups ++ (a ∷ []) ++ (b ∷ []) ++ (c ∷ []) →
    ArePhich identity duration m groups → ArePhich identity duration (m + 1) after
unfolding phich_by
phich_more identity duration m groups after a b c three is known = record {
  groups_are = is ∙ regroup ∙ ap₂ (λ (xs ys : List Reg). xs ++ ys) known.groups_are three
      ∙ sym (joined_below_more m (λ m. values_below 3 (phich_group identity duration m)));
  count = let one = ap (λ (gs : List Reg). length gs) (is ∙ regroup) in let two = length-append groups (a ∷ b ∷ c ∷ []) in let count = known.count in omega (arith, one, two, count);
}
  where
    regroup : groups ++ (a ∷ []) ++ (b ∷ []) ++ (c ∷ []) ≡ groups ++ (a ∷ b ∷ c ∷ [])
    regroup = simp append_assoc

pub phich_all : (identity : ℕ) (duration : Duration) (resource : Resource) (groups : List Reg) →
    ArePhich identity duration (phich_count resource) groups → groups ≡ phich_groups identity duration resource
unfolding phich_by phich_groups
phich_all identity duration resource groups known = known.groups_are

-- ---- the PDCCH groups, and their number

unfoldable pdcch_by : ℕ → ℕ → Duration → ℕ → List Reg
pdcch_by identity cfi duration count = without (phich_by identity duration count) (without (pcfich_groups identity) (region_groups cfi))

pdcch_is : (identity cfi : ℕ) (duration : Duration) (resource : Resource) →
    pdcch_groups identity cfi duration resource ≡ pdcch_by identity cfi duration (phich_count resource)
unfolding pdcch_groups phich_groups pdcch_by phich_by
pdcch_is identity cfi duration resource = refl

pdcch_repeats : (identity cfi count : ℕ) (duration : Duration) → pdcch_by identity cfi duration count ≡ pdcch_by (identity % 24) cfi duration count
unfolding pdcch_by
pdcch_repeats identity cfi count duration =
    ap₂ (λ (phich pcfich : List Reg). without phich (without pcfich (region_groups cfi))) (phich_by-repeats identity count duration) (pcfich_repeats identity)

count_test : Duration → ℕ → ℕ → ℕ → Bool
count_test duration count c s = nat_eq (length (pdcch_by s (c + 1) duration count)) (12 + 18 * (c + 1) - 4 - phich_inside (c + 1) duration * count)

counts_normal : every_below 3 (λ n. every_below 3 (λ c. every_below 24 (count_test Normal n c))) ≡ true
unfolding every_below joined_below count_test pdcch_by phich_by phich_group_in left_groups pcfich_groups symbol_groups region_groups
counts_normal = refl

counts_extended : every_below 3 (λ n. every_below 3 (λ c. every_below 24 (count_test Extended n c))) ≡ true
unfolding every_below joined_below count_test pdcch_by phich_by phich_group_in left_groups pcfich_groups symbol_groups region_groups
counts_extended = refl

counts : (duration : Duration) → every_below 3 (λ n. every_below 3 (λ c. every_below 24 (count_test duration n c))) ≡ true
counts Normal = counts_normal
counts Extended = counts_extended

phich_count-below : (resource : Resource) → phich_count resource < 3
phich_count-below OneSixth = omega arith
phich_count-below Half = omega arith
phich_count-below One = omega arith
phich_count-below Two = omega arith

count_at : (duration : Duration) (count c s : ℕ) → count < 3 → c < 3 → s < 24 →
    length (pdcch_by s (c + 1) duration count) ≡ 12 + 18 * (c + 1) - 4 - phich_inside (c + 1) duration * count
unfolding count_test
count_at duration count c s l m n =
    eqb-true _ _ (every_below_at 24 (count_test duration count c)
    (every_below_at 3 (λ c. every_below 24 (count_test duration count c))
    (every_below_at 3 (λ n. every_below 3 (λ c. every_below 24 (count_test duration n c))) (counts duration) count l) c m) s n)

pub pdcch_count : (identity cfi : ℕ) (duration : Duration) (resource : Resource) → 1 ≤ cfi → cfi ≤ 3 →
    length (pdcch_groups identity cfi duration resource) ≡ group_count cfi duration resource
pdcch_count identity cfi duration resource low high =
    let e : cfi - 1 + 1 ≡ cfi = omega arith in
    ap (λ (gs : List Reg). length gs) (pdcch_is identity cfi duration resource ∙ pdcch_repeats identity cfi (phich_count resource) duration)
    ∙ subst (λ (n : ℕ). length (pdcch_by (identity % 24) n duration (phich_count resource)) ≡ 12 + 18 * n - 4 - phich_inside n duration * phich_count resource)
    e (count_at duration (phich_count resource) (cfi - 1) (identity % 24) (phich_count-below resource) (omega arith) (omega arith))

-- ---- order and members of the control region

numbered_in_order : AllPairs (λ (g h : Reg). group_number g < group_number h) (values_below 288 numbered)
numbered_in_order = λ i j d l m.
    let count = values_below-length 288 numbered in
    let first = values_below_at numbered 288 i d (omega (arith, count)) in
    let second = values_below_at numbered 288 j d (omega (arith, count)) in
    rw (first, second) (omega arith)

pub pdcch_in_order : (identity cfi : ℕ) (duration : Duration) (resource : Resource) (i j : ℕ) → i < j →
    j < length (pdcch_groups identity cfi duration resource) →
    group_number (get_or (pdcch_groups identity cfi duration resource) i (group 0 0)) < group_number (get_or (pdcch_groups identity cfi duration resource) j (group 0 0))
unfolding pdcch_groups region_groups
pdcch_in_order identity cfi duration resource i j l m =
    AllPairs-filter (λ (g h : Reg). group_number g < group_number h) (λ g. not (is_group_in (phich_groups identity duration resource) g)) _
    (AllPairs-filter (λ (g h : Reg). group_number g < group_number h) (λ g. not (is_group_in (pcfich_groups identity) g)) _
    (AllPairs-filter (λ (g h : Reg). group_number g < group_number h) (is_in_region cfi) (values_below 288 numbered) numbered_in_order)) i j (group 0 0) l m

-- each group in the control region has a number
numbers_found : (cfi : ℕ) (g : Reg) → (is_group_in (values_below 288 numbered) g && is_in_region cfi g) ≡ is_in_region cfi g
numbers_found cfi g = cases (is_in_region cfi g) refl
  where
    there : is_in_region cfi g ≡ true → is_group_in (values_below 288 numbered) g ≡ true
    there e =
        let small : group_number g < 288 = grind (arith, nat_tests) in
        let here : get_or (values_below 288 numbered) (group_number g) g ≡ numbered (group_number g) = values_below_at numbered 288 (group_number g) g small in
        let back : numbered (group_number g) ≡ g = ap₂ group (grind (arith, nat_tests)) (grind (arith, nat_tests)) in
        list_any_at (same_group g) (values_below 288 numbered) (group_number g) g (omega (arith, values_below-length 288 numbered, small))
        (ap (same_group g) (here ∙ back) ∙ same_group-refl g)

    cases : (b : Bool) → is_in_region cfi g ≡ b → (is_group_in (values_below 288 numbered) g && is_in_region cfi g) ≡ is_in_region cfi g
    cases true e = rw (e, there e) refl
    cases false e = rw e (and-false _)

pub pdcch_found : (identity cfi : ℕ) (duration : Duration) (resource : Resource) (g : Reg) →
    is_group_in (pdcch_groups identity cfi duration resource) g
    ≡ (is_in_region cfi g && not (is_group_in (pcfich_groups identity) g) && not (is_group_in (phich_groups identity duration resource) g))
unfolding pdcch_groups region_groups
pdcch_found identity cfi duration resource g =
    any-filter same_group same_group-true (λ h. not (is_group_in (phich_groups identity duration resource) h)) g _
    ∙ ap (λ (b : Bool). b && not (is_group_in (phich_groups identity duration resource) g))
    (any-filter same_group same_group-true (λ h. not (is_group_in (pcfich_groups identity) h)) g _
    ∙ ap (λ (b : Bool). b && not (is_group_in (pcfich_groups identity) g))
    (any-filter same_group same_group-true (is_in_region cfi) g (values_below 288 numbered) ∙ numbers_found cfi g))

pub groups_in_order : (identity cfi : ℕ) (duration : Duration) (resource : Resource) → 1 ≤ cfi → cfi ≤ 3 →
    AreInOrder group_number (pdcch_groups identity cfi duration resource) (group_count cfi duration resource)
    (λ i. get_or (pdcch_groups identity cfi duration resource) i (group 0 0))
    (λ g. is_in_region cfi g && not (is_group_in (pcfich_groups identity) g) && not (is_group_in (phich_groups identity duration resource) g))
groups_in_order identity cfi duration resource low high =
    let count = pdcch_count identity cfi duration resource low high in
    record {
      size = count;
      item = λ i l. slice_get-get_or (pdcch_groups identity cfi duration resource) i (group 0 0) (omega (arith, l, count));
      rise = λ i j l m. pdcch_in_order identity cfi duration resource i j l (omega (arith, m, count));
      members = members_by same_group same_group-true same_group-refl _ _ (pdcch_found identity cfi duration resource);
    }

-- ---- collecting the groups one by one

-- the groups among the first n that are collected
unfoldable pub kept_below : List Reg → List Reg → ℕ → ℕ → List Reg
kept_below pcfich phich cfi n = without phich (without pcfich (filter (is_in_region cfi) (values_below n numbered)))

abbrev pub stays : List Reg → List Reg → ℕ → Reg → Bool
stays pcfich phich cfi g = is_in_region cfi g && not (is_group_in pcfich g) && not (is_group_in phich g)

one_more : (pcfich phich : List Reg) (cfi : ℕ) (g : Reg) →
    without phich (without pcfich (filter (is_in_region cfi) (g ∷ []))) ≡ cond (stays pcfich phich cfi g) (g ∷ []) []
one_more pcfich phich cfi g = cases (is_in_region cfi g) (is_group_in pcfich g) (is_group_in phich g) refl refl refl
  where
    cases : (a b c : Bool) → is_in_region cfi g ≡ a → is_group_in pcfich g ≡ b → is_group_in phich g ≡ c →
        without phich (without pcfich (filter (is_in_region cfi) (g ∷ []))) ≡ cond (is_in_region cfi g && not (is_group_in pcfich g) && not (is_group_in phich g)) (g ∷ []) []
    cases false b c d e f = rw d refl
    cases true true c d e f = simp (d, e)
    cases true false true d e f = simp (d, e, f)
    cases true false false d e f = simp (d, e, f)

pub kept_none : (pcfich phich : List Reg) (cfi : ℕ) → kept_below pcfich phich cfi 0 ≡ []
unfolding kept_below
kept_none pcfich phich cfi = refl

kept_more : (pcfich phich : List Reg) (cfi n : ℕ) →
    kept_below pcfich phich cfi (n + 1) ≡ kept_below pcfich phich cfi n ++ cond (stays pcfich phich cfi (numbered n)) (numbered n ∷ []) []
unfolding kept_below
kept_more pcfich phich cfi n =
    let region : List Reg → List Reg = filter (is_in_region cfi) in
    ap (λ gs. without phich (without pcfich (region gs))) (values_below_more n numbered)
    ∙ ap (λ gs. without phich (without pcfich gs)) (filter-append (is_in_region cfi) (values_below n numbered) (numbered n ∷ []))
    ∙ ap (without phich) (filter-append (λ g. not (is_group_in pcfich g)) (region (values_below n numbered)) (region (numbered n ∷ [])))
    ∙ filter-append (λ g. not (is_group_in phich g)) (without pcfich (region (values_below n numbered))) (without pcfich (region (numbered n ∷ [])))
    ∙ ap (λ gs. without phich (without pcfich (region (values_below n numbered))) ++ gs) (one_more pcfich phich cfi (numbered n))

pub kept_yes : (pcfich phich : List Reg) (cfi n : ℕ) → stays pcfich phich cfi (numbered n) ≡ true →
    kept_below pcfich phich cfi (n + 1) ≡ kept_below pcfich phich cfi n ++ (numbered n ∷ [])
kept_yes pcfich phich cfi n e = kept_more pcfich phich cfi n ∙ rw e refl

pub kept_no : (pcfich phich : List Reg) (cfi n : ℕ) → stays pcfich phich cfi (numbered n) ≡ false →
    kept_below pcfich phich cfi (n + 1) ≡ kept_below pcfich phich cfi n
kept_no pcfich phich cfi n e = kept_more pcfich phich cfi n ∙ rw e (append-nil (kept_below pcfich phich cfi n))

-- the control region has at most 66 groups
region_test : ℕ → ℕ → Bool
region_test cfi n = nat_le (length (filter (is_in_region cfi) (values_below n numbered))) 66

regions_checked : every_below 4 (λ cfi. every_below 289 (region_test cfi)) ≡ true
unfolding every_below region_test
regions_checked = refl

pub kept_few : (pcfich phich : List Reg) (cfi n : ℕ) → cfi ≤ 3 → n ≤ 288 → length (kept_below pcfich phich cfi n) ≤ 66
unfolding kept_below region_test
kept_few pcfich phich cfi n l m =
    let here = leb-true _ _ (every_below_at 289 (region_test cfi) (every_below_at 4 (λ cfi. every_below 289 (region_test cfi)) regions_checked cfi (omega arith)) n (omega arith)) in
    let first = length-filter_within (λ g. not (is_group_in pcfich g)) (filter (is_in_region cfi) (values_below n numbered)) in
    let second = length-filter_within (λ g. not (is_group_in phich g)) (without pcfich (filter (is_in_region cfi) (values_below n numbered))) in
    omega (arith, here, first, second)

pub kept_all : (identity cfi : ℕ) (duration : Duration) (resource : Resource) →
    kept_below (pcfich_groups identity) (phich_groups identity duration resource) cfi 288 ≡ pdcch_groups identity cfi duration resource
unfolding kept_below pdcch_groups region_groups
kept_all identity cfi duration resource = refl

-- there is room for one more group
pub room_for_one : (pcfich phich groups : List Reg) (cfi n : ℕ) → cfi ≤ 3 → n < 288 → stays pcfich phich cfi (numbered n) ≡ true →
    groups ≡ kept_below pcfich phich cfi n → length groups < 66
room_for_one pcfich phich groups cfi n few l e is =
    let long = length-append (kept_below pcfich phich cfi n) (numbered n ∷ []) in
    let all = kept_few pcfich phich cfi (n + 1) few (omega arith) in
    let all' = rw (kept_yes pcfich phich cfi n e) at all in
    rw is (omega (arith, long, all'))

-- ---- where the groups are

pcfich_in_first : (identity i : ℕ) → (is_group (pcfich_group identity i) ≡ true) × ((pcfich_group identity i).symbol ≡ 0)
pcfich_in_first identity i = (grind (arith, nat_tests), refl)

pub pcfich_inside : (identity : ℕ) → All (λ (g : Reg). (is_group g ≡ true) × (g.symbol ≡ 0)) (pcfich_groups identity)
unfolding pcfich_groups
pcfich_inside identity =
    All-map (λ (g : Reg). (is_group g ≡ true) × (g.symbol ≡ 0)) (pcfich_group identity) (range_with_len 0 4)
    (λ k d l. pcfich_in_first identity (get_or (range_with_len 0 4) k d))

pub pdcch_inside : (identity cfi : ℕ) (duration : Duration) (resource : Resource) →
    All (λ (g : Reg). is_in_region cfi g ≡ true) (pdcch_groups identity cfi duration resource)
unfolding pdcch_groups region_groups
pdcch_inside identity cfi duration resource =
    All-filter (λ g. not (is_group_in (phich_groups identity duration resource) g)) (λ (g : Reg). is_in_region cfi g ≡ true) _
    (All-filter (λ g. not (is_group_in (pcfich_groups identity) g)) (λ (g : Reg). is_in_region cfi g ≡ true) _
    (filter_passes (is_in_region cfi) (values_below 288 numbered)))
