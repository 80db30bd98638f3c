-- The PBCH's resource elements with the extended prefix: from index to resource element and back, for every identity.
use Rattle.std.proofs.Common.{◌≡◌, ℕ, zero, suc, ◌+◌, ◌-◌, ◌*◌, ◌/◌, ◌%◌, ◌<◌, ◌≤◌, Bool, true, false, not, ◌&&◌, cond, nat_eq, nat_lt, List, length, map, get_or, refl, ap, ◌∙◌, sym, subst, arith}
use Rattle.std.specs.List.{range_with_len}
use Rattle.std.proofs.lemmas.Bool.{ltb-true, lt-ltb, le-ltb, and_parts, eqb-true}
use Rattle.std.proofs.lemmas.List.FromFn.{length-map-range_with_len, get_or-map-range_with_len}
use Rattle.finite.specs.Tests.{every_below}
use Rattle.finite.proofs.Tests.{every_below_at}
use Rattle.grid_map.specs.declared.Place.{Place}
use Rattle.grid_map.specs.Place.{place, places_of, index_in, skipping}
use Rattle.grid_map.specs.LongBroadcast.{is_kept, free_places, long_places}

-- ---- the resource element for an index

-- subcarrier n among those that are not reserved
unfoldable pub free_subcarrier : ℕ → ℕ → ℕ
free_subcarrier shift n = 3 * (n / 2) + skipping shift (n % 2)

unfoldable pub nth_place : ℕ → ℕ → Place
nth_place shift i =
    cond (nat_lt i 96) (place (i / 48) (free_subcarrier shift (i % 48)))
    (cond (nat_lt i 168) (place 2 (i - 96)) (place 3 (free_subcarrier shift (i - 168))))

list0 : free_places 0 ≡ map (nth_place 0) (range_with_len 0 216)
unfolding free_places places_of nth_place free_subcarrier
list0 = refl

list1 : free_places 1 ≡ map (nth_place 1) (range_with_len 0 216)
unfolding free_places places_of nth_place free_subcarrier
list1 = refl

list2 : free_places 2 ≡ map (nth_place 2) (range_with_len 0 216)
unfolding free_places places_of nth_place free_subcarrier
list2 = refl

free_places_is : (shift : ℕ) → shift < 3 → free_places shift ≡ map (nth_place shift) (range_with_len 0 216)
free_places_is zero few = list0
free_places_is (suc zero) few = list1
free_places_is (suc (suc zero)) few = list2
free_places_is (suc (suc (suc shift))) few = absurd (omega arith)

-- ---- each resource element is free, and has its index

-- the test for index i: its resource element is in the four symbols, not reserved, and different from all before
unfoldable stands : ℕ → ℕ → Bool
stands shift i =
    let p = nth_place shift i in
    nat_lt p.symbol 4 && (nat_lt p.k 72 && (not (is_kept shift p) && nat_eq (index_in (map (nth_place shift) (range_with_len 0 216)) p) i))

stand0 : every_below 216 (stands 0) ≡ true
unfolding every_below stands nth_place free_subcarrier
stand0 = refl

stand1 : every_below 216 (stands 1) ≡ true
unfolding every_below stands nth_place free_subcarrier
stand1 = refl

stand2 : every_below 216 (stands 2) ≡ true
unfolding every_below stands nth_place free_subcarrier
stand2 = refl

all_stand : (shift : ℕ) → shift < 3 → every_below 216 (stands shift) ≡ true
all_stand zero few = stand0
all_stand (suc zero) few = stand1
all_stand (suc (suc zero)) few = stand2
all_stand (suc (suc (suc shift))) few = absurd (omega arith)

-- ---- for every identity

shift_fits : (identity : ℕ) → identity % 3 < 3
shift_fits identity = omega arith

places_are : (identity : ℕ) → long_places identity ≡ map (nth_place (identity % 3)) (range_with_len 0 216)
unfolding long_places
places_are identity = free_places_is (identity % 3) (shift_fits identity)

pub length-long_places : (identity : ℕ) → length (long_places identity) ≡ 216
length-long_places identity = ap length (places_are identity) ∙ length-map-range_with_len (nth_place (identity % 3)) 0 216

pub long_place-nth : (identity i : ℕ) → i < 216 → get_or (long_places identity) i (place 0 0) ≡ nth_place (identity % 3) i
long_place-nth identity i inside =
    ap (λ (ps : List Place). get_or ps i (place 0 0)) (places_are identity)
    ∙ get_or-map-range_with_len (nth_place (identity % 3)) 0 216 i i (place 0 0) inside (omega arith)

-- facts about the PBCH resource element for index i
pub record IsLongPlace (identity i : ℕ) (p : Place) : Type 0 where
  pub symbol : p.symbol < 4
  pub k : p.k < 72
  pub free : is_kept (identity % 3) p ≡ false
  pub index : index_in (long_places identity) p ≡ i

kept_not : (b : Bool) → not b ≡ true → b ≡ false
kept_not false e = refl
kept_not true e = absurd cc

long_place_at : (identity i : ℕ) → i < 216 → IsLongPlace identity i (nth_place (identity % 3) i)
unfolding stands
long_place_at identity i inside =
    let shift : ℕ = identity % 3 in
    let p : Place = nth_place shift i in
    let whole = every_below_at 216 (stands shift) (all_stand shift (shift_fits identity)) i inside in
    let parts = and_parts (nat_lt p.symbol 4) _ whole in
    let more = and_parts (nat_lt p.k 72) _ parts.1 in
    let last = and_parts (not (is_kept shift p)) _ more.1 in
    record {
      symbol = ltb-true p.symbol 4 parts.0;
      k = ltb-true p.k 72 more.0;
      free = kept_not (is_kept shift p) last.0;
      index = ap (λ (ps : List Place). index_in ps p) (places_are identity) ∙ eqb-true _ i last.1;
    }

pub long_place_is : (identity i : ℕ) → i < 216 → IsLongPlace identity i (get_or (long_places identity) i (place 0 0))
long_place_is identity i inside = subst (IsLongPlace identity i) (sym (long_place-nth identity i inside)) (long_place_at identity i inside)

-- ---- the resource element as computed

pub early_place : (identity shift i : ℕ) → shift ≡ identity % 3 → i < 96 → place (i / 48) (3 * (i % 48 / 2) + skipping shift (i % 48 % 2)) ≡ get_or (long_places identity) i (place 0 0)
unfolding nth_place free_subcarrier
early_place identity shift i e low = let test = lt-ltb i 96 low in sym (long_place-nth identity i (omega (arith, low)) ∙ rw (test, e) refl)

pub middle_place : (identity i : ℕ) → 96 ≤ i → i < 168 → place 2 (i - 96) ≡ get_or (long_places identity) i (place 0 0)
unfolding nth_place
middle_place identity i high low = let test = le-ltb i 96 high in let next = lt-ltb i 168 low in sym (long_place-nth identity i (omega (arith, low)) ∙ rw (test, next) refl)

pub late_place : (identity shift i : ℕ) → shift ≡ identity % 3 → 168 ≤ i → i < 216 →
    place 3 (3 * ((i - 168) / 2) + skipping shift ((i - 168) % 2)) ≡ get_or (long_places identity) i (place 0 0)
unfolding nth_place free_subcarrier
late_place identity shift i e high inside =
    let test = le-ltb i 96 (omega (arith, high)) in let next = le-ltb i 168 high in sym (long_place-nth identity i inside ∙ rw (test, next, e) refl)
