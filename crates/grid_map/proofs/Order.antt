-- The PBCH's resource elements: from index to resource element and back.
use Rattle.std.proofs.Common.{ℕ, zero, suc, ◌+◌, ◌-◌, ◌*◌, ◌/◌, ◌%◌, ◌<◌, ◌≤◌, ◌≡◌, Bool, true, false, not, ◌&&◌, ◌||◌, cond, nat_eq, nat_lt, length, map, get_or, refl, ap, ap₂, subst, arith, eq-eqb}
use Rattle.std.specs.List.{range_with_len}
use Rattle.std.proofs.lemmas.Bool.{ltb-true, ltb-false, and_parts, false≢true, eqb-true}
use Rattle.std.proofs.lemmas.Bool.Decides.{nat_tests}
use Rattle.std.proofs.lemmas.List.FromFn.{length-map-range_with_len, get_or-map-range_with_len}
use Rattle.finite.specs.Tests.{every_below}
use Rattle.finite.proofs.Tests.{every_below_at}
use Rattle.grid_map.specs.declared.Place.{Place}
use Rattle.grid_map.specs.Place.{place, places_of, place_number, same_place}
use Rattle.grid_map.specs.Broadcast.{free_places, is_free}

-- ---- the resource element for an index

-- the two unreserved subcarriers of three
unfoldable pub skip : ℕ → ℕ → ℕ
skip shift n = cond (nat_lt n shift) n (n + 1)

unfoldable pub nth_place : ℕ → ℕ → Place
nth_place shift i =
    cond (nat_lt i 96)
    (place (7 + i / 48) (3 * (i % 48 / 2) + skip shift (i % 48 % 2)))
    (place (9 + (i - 96) / 72) ((i - 96) % 72))

list0 : free_places 0 ≡ map (nth_place 0) (range_with_len 0 240)
unfolding free_places places_of nth_place skip
list0 = refl

list1 : free_places 1 ≡ map (nth_place 1) (range_with_len 0 240)
unfolding free_places places_of nth_place skip
list1 = refl

list2 : free_places 2 ≡ map (nth_place 2) (range_with_len 0 240)
unfolding free_places places_of nth_place skip
list2 = refl

pub free_places_is : (shift : ℕ) → shift < 3 → free_places shift ≡ map (nth_place shift) (range_with_len 0 240)
free_places_is zero few = list0
free_places_is (suc zero) few = list1
free_places_is (suc (suc zero)) few = list2
free_places_is (suc (suc (suc shift))) few = absurd (omega arith)

pub length-free_places : (shift : ℕ) → shift < 3 → length (free_places shift) ≡ 240
length-free_places shift few = rw (free_places_is shift few) (length-map-range_with_len (nth_place shift) 0 240)

pub get_or-free_places : (shift i : ℕ) (d : Place) → shift < 3 → i < 240 → get_or (free_places shift) i d ≡ nth_place shift i
get_or-free_places shift i d few inside =
    rw (free_places_is shift few) (get_or-map-range_with_len (nth_place shift) 0 240 i i d inside (omega arith))

-- ---- the order

unfoldable rises : ℕ → ℕ → Bool
rises shift i = nat_lt (place_number (nth_place shift i)) (place_number (nth_place shift (i + 1)))

rises0 : every_below 239 (rises 0) ≡ true
unfolding every_below rises nth_place skip
rises0 = refl

rises1 : every_below 239 (rises 1) ≡ true
unfolding every_below rises nth_place skip
rises1 = refl

rises2 : every_below 239 (rises 2) ≡ true
unfolding every_below rises nth_place skip
rises2 = refl

all_rise : (shift : ℕ) → shift < 3 → every_below 239 (rises shift) ≡ true
all_rise zero few = rises0
all_rise (suc zero) few = rises1
all_rise (suc (suc zero)) few = rises2
all_rise (suc (suc (suc shift))) few = absurd (omega arith)

one_rises : (shift i : ℕ) → shift < 3 → i < 239 → place_number (nth_place shift i) < place_number (nth_place shift (i + 1))
unfolding rises
one_rises shift i few inside = ltb-true _ _ (every_below_at 239 (rises shift) (all_rise shift few) i inside)

pub in_order : (shift i j : ℕ) → shift < 3 → i < j → j < 240 → place_number (nth_place shift i) < place_number (nth_place shift j)
in_order shift i zero few before inside = absurd (omega arith)
in_order shift i (suc j) few before inside = step (nat_lt i j) refl (λ earlier. in_order shift i j few earlier (omega arith))
  where
    next : j + 1 ≡ suc j
    next = omega arith

    last : place_number (nth_place shift j) < place_number (nth_place shift (suc j))
    last = subst (λ (n : ℕ). place_number (nth_place shift j) < place_number (nth_place shift n)) next (one_rises shift j few (omega arith))

    step : (b : Bool) → nat_lt i j ≡ b → (i < j → place_number (nth_place shift i) < place_number (nth_place shift j)) →
        place_number (nth_place shift i) < place_number (nth_place shift (suc j))
    step true e rest = let before : place_number (nth_place shift i) < place_number (nth_place shift j) = rest (ltb-true i j e) in omega (arith, last)
    step false e rest = let same : j ≡ i = omega (arith, ltb-false i j e) in subst (λ (n : ℕ). place_number (nth_place shift n) < place_number (nth_place shift (suc j))) same last

-- different indices have different resource elements
pub one_to_one : (shift i j : ℕ) → shift < 3 → i < 240 → j < 240 → nth_place shift i ≡ nth_place shift j → i ≡ j
one_to_one shift i j few inside inside' same = cases (nat_lt i j) (nat_lt j i) refl refl
  where
    numbers : place_number (nth_place shift i) ≡ place_number (nth_place shift j)
    numbers = ap place_number same

    cases : (a b : Bool) → nat_lt i j ≡ a → nat_lt j i ≡ b → i ≡ j
    cases true b e f = absurd (omega (arith, numbers, in_order shift i j few (ltb-true i j e) inside'))
    cases false true e f = absurd (omega (arith, numbers, in_order shift j i few (ltb-true j i f) inside))
    cases false false e f = omega (arith, ltb-false i j e, ltb-false j i f)

-- ---- equality tests on resource elements

pub same_place-refl : (p : Place) → same_place p p ≡ true
same_place-refl p = rw (eq-eqb p.symbol p.symbol refl, eq-eqb p.k p.k refl) refl

pub same_place-true : (p q : Place) → same_place p q ≡ true → p ≡ q
same_place-true p q same =
    let parts = and_parts (nat_eq p.symbol q.symbol) (nat_eq p.k q.k) same in
    ap₂ place (eqb-true p.symbol q.symbol parts.0) (eqb-true p.k q.k parts.1)

-- ---- the resource elements are those that are not reserved

unfoldable stands : ℕ → ℕ → Bool
stands shift i = is_free shift (nth_place shift i)

stand0 : every_below 240 (stands 0) ≡ true
unfolding every_below stands nth_place skip
stand0 = refl

stand1 : every_below 240 (stands 1) ≡ true
unfolding every_below stands nth_place skip
stand1 = refl

stand2 : every_below 240 (stands 2) ≡ true
unfolding every_below stands nth_place skip
stand2 = refl

all_stand : (shift : ℕ) → shift < 3 → every_below 240 (stands shift) ≡ true
all_stand zero few = stand0
all_stand (suc zero) few = stand1
all_stand (suc (suc zero)) few = stand2
all_stand (suc (suc (suc shift))) few = absurd (omega arith)

pub nth_place-is_free : (shift i : ℕ) → shift < 3 → i < 240 → is_free shift (nth_place shift i) ≡ true
unfolding stands
nth_place-is_free shift i few inside = every_below_at 240 (stands shift) (all_stand shift few) i inside

-- a resource element's index
unfoldable pub number_of : ℕ → Place → ℕ
number_of shift p =
    cond (nat_lt p.symbol 9)
    (48 * (p.symbol - 7) + 2 * (p.k / 3) + cond (nat_lt (p.k % 3) shift) (p.k % 3) (p.k % 3 - 1))
    (96 + 72 * (p.symbol - 9) + p.k)

abbrev has_point : ℕ → Place → Bool
has_point shift p = nat_lt (number_of shift p) 240 && same_place (nth_place shift (number_of shift p)) p

unfoldable found : ℕ → ℕ → Bool
found shift n =
    let p = place (7 + n / 72) (n % 72) in
    not (is_free shift p) || has_point shift p

found0 : every_below 288 (found 0) ≡ true
unfolding every_below found number_of nth_place skip
found0 = refl

found1 : every_below 288 (found 1) ≡ true
unfolding every_below found number_of nth_place skip
found1 = refl

found2 : every_below 288 (found 2) ≡ true
unfolding every_below found number_of nth_place skip
found2 = refl

all_found : (shift : ℕ) → shift < 3 → every_below 288 (found shift) ≡ true
all_found zero few = found0
all_found (suc zero) few = found1
all_found (suc (suc zero)) few = found2
all_found (suc (suc (suc shift))) few = absurd (omega arith)

implied : (a b : Bool) → (not a || b) ≡ true → a ≡ true → b ≡ true
implied true b h e = h
implied false b h e = absurd (false≢true e)

found_at : (shift n : ℕ) → shift < 3 → n < 288 → (not (is_free shift (place (7 + n / 72) (n % 72))) || has_point shift (place (7 + n / 72) (n % 72))) ≡ true
unfolding found
found_at shift n few inside = every_below_at 288 (found shift) (all_found shift few) n inside

pub number_of-is : (shift : ℕ) (p : Place) → shift < 3 → is_free shift p ≡ true → (number_of shift p < 240) × (nth_place shift (number_of shift p) ≡ p)
number_of-is shift p few skipping =
    let low : 7 ≤ p.symbol = grind (arith, nat_tests) in
    let high : p.symbol < 11 = grind (arith, nat_tests) in
    let k_fits : p.k < 72 = grind (arith, nat_tests) in
    let n : ℕ = 72 * (p.symbol - 7) + p.k in
    let inside : n < 288 = omega arith in
    let symbol_is : 7 + n / 72 ≡ p.symbol = omega arith in
    let k_is : n % 72 ≡ p.k = omega arith in
    let here : place (7 + n / 72) (n % 72) ≡ p = ap₂ place symbol_is k_is in
    let test : (not (is_free shift p) || has_point shift p) ≡ true =
    subst (λ (q : Place). (not (is_free shift q) || has_point shift q) ≡ true) here (found_at shift n few inside) in
    let parts = and_parts (nat_lt (number_of shift p) 240) (same_place (nth_place shift (number_of shift p)) p) (implied (is_free shift p) (has_point shift p) test skipping) in
    (ltb-true _ _ parts.0, same_place-true _ _ parts.1)
