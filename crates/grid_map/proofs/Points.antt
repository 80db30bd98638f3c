-- The PBCH symbols and their resource elements, for every identity.
use Rattle.std.proofs.Common.{ℕ, ◌+◌, ◌*◌, ◌/◌, ◌%◌, ◌-◌, ◌<◌, ◌≤◌, ◌≡◌, ◌↔◌, Bool, true, false, nat_lt, nat_le, inl, inr, if◌then◌else◌, length, get_or, slice_get, Some, refl, ap, sym, ◌∙◌, arith}
use Rattle.std.specs.List.{Contains}
use Rattle.std.proofs.lemmas.List.{get_or_past}
use Rattle.std.proofs.lemmas.Bool.{lt-ltb, le-ltb, and_parts, leb-true, ltb-true, cases_lt}
use Rattle.std.proofs.lemmas.List.Sums.{position_or_len_is, passes_at_first}
use Rattle.std.proofs.lemmas.Option.{slice_get-get_or}
use Rattle.grid_map.specs.declared.Place.{Place}
use Rattle.grid_map.specs.Place.{place, place_number, same_place}
use Rattle.grid_map.specs.Broadcast.{pbch_places, pbch_place, is_free, is_pbch, pbch_index}
use Rattle.grid_map.specs.Order.{AreInOrder}
use Rattle.grid_map.proofs.Order.{skip, nth_place, length-free_places, get_or-free_places, in_order as nth_in_order, one_to_one, same_place-refl, same_place-true, nth_place-is_free, number_of, number_of-is}

shift_fits : (identity : ℕ) → identity % 3 < 3
shift_fits identity = omega arith

pub length-pbch_places : (identity : ℕ) → length (pbch_places identity) ≡ 240
unfolding pbch_places
length-pbch_places identity = length-free_places (identity % 3) (shift_fits identity)

pub pbch_place-nth : (identity i : ℕ) → i < 240 → pbch_place identity i ≡ nth_place (identity % 3) i
unfolding pbch_place pbch_places
pbch_place-nth identity i inside = get_or-free_places (identity % 3) i (place 0 0) (shift_fits identity) inside

pub slice_get-pbch_places : (identity i : ℕ) → i < 240 → slice_get (pbch_places identity) i ≡ Some (pbch_place identity i)
unfolding pbch_place
slice_get-pbch_places identity i inside = slice_get-get_or (pbch_places identity) i (place 0 0) (omega (arith, length-pbch_places identity))

pub places_rise : (identity i j : ℕ) → i < j → j < 240 → place_number (pbch_place identity i) < place_number (pbch_place identity j)
places_rise identity i j before inside =
    let first = pbch_place-nth identity i (omega arith) in
    let second = pbch_place-nth identity j inside in
    rw (first, second) (nth_in_order (identity % 3) i j (shift_fits identity) before inside)

pub places_apart : (identity i j : ℕ) → i < 240 → j < 240 → pbch_place identity i ≡ pbch_place identity j → i ≡ j
places_apart identity i j inside inside' same =
    one_to_one (identity % 3) i j (shift_fits identity) inside inside'
    (sym (pbch_place-nth identity i inside) ∙ same ∙ pbch_place-nth identity j inside')

pub places_inside : (identity i : ℕ) → i < 240 → is_pbch identity (pbch_place identity i) ≡ true
unfolding is_pbch
places_inside identity i inside =
    let here = pbch_place-nth identity i inside in
    rw here (nth_place-is_free (identity % 3) i (shift_fits identity) inside)

-- the PBCH is in the first four symbols of a slot
pub places_in_front : (identity i : ℕ) → (get_or (pbch_places identity) i (place 0 0)).symbol % 7 < 4
unfolding pbch_place is_pbch
places_in_front identity i = elim (cases_lt i 240) [
  | inl inside ↦ symbol_in_front (pbch_place identity i) (identity % 3) (places_inside identity i inside)
  | inr past ↦ rw (get_or_past (pbch_places identity) i (place 0 0) (omega (arith, length-pbch_places identity, past))) (omega arith)
]
  where
    symbol_in_front : (p : Place) (shift : ℕ) → is_free shift p ≡ true → p.symbol % 7 < 4
    symbol_in_front p shift free =
        let placed = and_parts _ _ free in
        let inside = and_parts _ _ placed.0 in
        let symbols = and_parts (nat_le 7 p.symbol) (nat_lt p.symbol 11) inside.0 in
        let low = leb-true 7 p.symbol symbols.0 in
        let high = ltb-true p.symbol 11 symbols.1 in
        omega (arith, low, high)

different : (identity i k : ℕ) → i < 240 → k < i → same_place (pbch_place identity i) (pbch_place identity k) ≡ false
different identity i k inside before = cases (same_place (pbch_place identity i) (pbch_place identity k)) refl
  where
    cases : (b : Bool) → same_place (pbch_place identity i) (pbch_place identity k) ≡ b → b ≡ false
    cases false e = refl
    cases true e = absurd (let same = places_apart identity i k inside (omega arith) (same_place-true _ _ e) in omega arith)

pub index_of_place : (identity i : ℕ) → i < 240 → pbch_index identity (pbch_place identity i) ≡ i
unfolding pbch_index pbch_place
index_of_place identity i inside =
    position_or_len_is (same_place (pbch_place identity i)) (pbch_places identity) i (place 0 0)
    (omega (arith, length-pbch_places identity))
    (λ k before. different identity i k inside before)
    (λ within. same_place-refl (pbch_place identity i))

-- an index below 240 leads back to its resource element
pub place_of_index : (identity : ℕ) (p : Place) → pbch_index identity p < 240 → p ≡ pbch_place identity (pbch_index identity p)
unfolding pbch_index pbch_place
place_of_index identity p few =
    same_place-true p _ (passes_at_first (same_place p) (pbch_places identity) (place 0 0) (omega (arith, length-pbch_places identity)))

pub index_fits : (identity : ℕ) (p : Place) → is_pbch identity p ≡ true → pbch_index identity p < 240
unfolding is_pbch
index_fits identity p carries =
    let there = number_of-is (identity % 3) p (shift_fits identity) carries in
    let n : ℕ = number_of (identity % 3) p in
    let is : pbch_place identity n ≡ p = pbch_place-nth identity n there.0 ∙ there.1 in
    let index : pbch_index identity p ≡ n = ap (pbch_index identity) (sym is) ∙ index_of_place identity n there.0 in
    omega (arith, index, there.0)

pub carries_at_index : (identity : ℕ) (p : Place) → pbch_index identity p < 240 → is_pbch identity p ≡ true
carries_at_index identity p few =
    ap (is_pbch identity) (place_of_index identity p few) ∙ places_inside identity (pbch_index identity p) few

get_or-pbch_places : (identity i : ℕ) (d : Place) → i < 240 → get_or (pbch_places identity) i d ≡ pbch_place identity i
unfolding pbch_places
get_or-pbch_places identity i d inside = get_or-free_places (identity % 3) i d (shift_fits identity) inside ∙ sym (pbch_place-nth identity i inside)

pbch_members : (identity : ℕ) (p : Place) → Contains (pbch_places identity) p ↔ (is_pbch identity p ≡ true)
pbch_members identity p = (there, back)
  where
    there : Contains (pbch_places identity) p → is_pbch identity p ≡ true
    there (i, inside, here) =
        let few : i < 240 = omega (arith, inside, length-pbch_places identity) in
        ap (is_pbch identity) (sym here ∙ get_or-pbch_places identity i p few) ∙ places_inside identity i few

    back : is_pbch identity p ≡ true → Contains (pbch_places identity) p
    back carries =
        let few = index_fits identity p carries in
        let size = length-pbch_places identity in
        (pbch_index identity p, omega (arith, few, size), get_or-pbch_places identity (pbch_index identity p) p few ∙ sym (place_of_index identity p few))

pub pbch_in_order : (identity : ℕ) → AreInOrder place_number (pbch_places identity) 240 (pbch_place identity) (is_pbch identity)
pbch_in_order identity = record {
  size = length-pbch_places identity;
  item = slice_get-pbch_places identity;
  rise = places_rise identity;
  members = pbch_members identity;
}

-- ---- the resource element as computed

place_in_shared-nth : (shift i skipping : ℕ) → i < 96 → skipping ≡ skip shift (i % 48 % 2) →
    place (7 + i / 48) (3 * (i % 48 / 2) + skipping) ≡ nth_place shift i
unfolding nth_place
place_in_shared-nth shift i skipping low is = let test = lt-ltb i 96 low in rw (test, is) refl

place_in_whole-nth : (shift i : ℕ) → 96 ≤ i → place (9 + (i - 96) / 72) ((i - 96) % 72) ≡ nth_place shift i
unfolding nth_place
place_in_whole-nth shift i high = let test = le-ltb i 96 high in rw test refl

pub place_in_shared : (identity shift i skipping : ℕ) → shift ≡ identity % 3 → i < 96 → skipping ≡ (if nat_lt (i % 48 % 2) shift then i % 48 % 2 else i % 48 % 2 + 1) →
    place (7 + i / 48) (3 * (i % 48 / 2) + skipping) ≡ pbch_place identity i
unfolding skip
place_in_shared identity shift i skipping of low is =
    place_in_shared-nth (identity % 3) i skipping low (is ∙ ap (λ (s : ℕ). skip s (i % 48 % 2)) of) ∙ sym (pbch_place-nth identity i (omega arith))

pub place_in_whole : (identity i : ℕ) → 96 ≤ i → i < 240 → place (9 + (i - 96) / 72) ((i - 96) % 72) ≡ pbch_place identity i
place_in_whole identity i high inside = place_in_whole-nth (identity % 3) i high ∙ sym (pbch_place-nth identity i inside)
