-- The PDSCH's resource elements, symbol by symbol.
use Rattle.std.proofs.Common.{ℕ, zero, suc, ◌+◌, ◌-◌, ◌*◌, ◌/◌, ◌%◌, ◌<◌, ◌≤◌, ◌≡◌, Bool, true, false, not, ◌&&◌, cond, nat_eq, nat_lt, List, [], ◌++◌, filter, map, length, get_or, slice_get, Some, refl, ap, ap₂, sym, ◌∙◌, subst, ◌⊎◌, inl, inr, arith, length-append, add-mul, zero-mul, le_refl, le_trans}
use Rattle.std.specs.List.{AllPairs, Contains, list_any, range_with_len, flat_map}
use Rattle.std.proofs.Math.ListN.{get_or-append}
use Rattle.std.proofs.lemmas.List.{get_or-append_right, length-map, get_or-map}
use Rattle.std.proofs.lemmas.Bool.{lt-ltb, false≢true, cases_lt}
use Rattle.std.proofs.lemmas.Bool.Decides.{nat_tests}
use Rattle.std.proofs.lemmas.List.Elements.{All-contains, Contains-get_or, filter_passes}
use Rattle.std.proofs.lemmas.Option.{slice_get-get_or}
use Rattle.std.proofs.lemmas.List.Folds.{list_any_at}
use Rattle.std.proofs.lemmas.Map.Views.{Contains-from_any}
use Rattle.std.proofs.lemmas.List.Kept.{AllPairs-filter}
use Rattle.finite.specs.Lists.{values_below}
use Rattle.finite.proofs.Lists.{values_below_at, values_below-length}
use Rattle.lte_types.specs.declared.carrier.Carrier.{Carrier}
use Rattle.lte_types.specs.declared.carrier.Carrier.TheVariants.{OnePort, TwoPorts, LongPrefix, FourPorts}
use Rattle.crs.specs.Reference.{pattern_of, pattern_first}
use Rattle.grid_map.specs.declared.Place.{Place}
use Rattle.grid_map.specs.Place.{place, symbol_places, places_of, is_in_grid, place_number, same_place}
use Rattle.grid_map.specs.Shared.{slot_symbols, subframe_symbols, is_synchronisation, is_pilot_of, is_shared_of, shared_places_of, shared_place_of, pilots_of_block, block_room, block_rooms, block_places_of}
use Rattle.grid_map.specs.Steps.{offset}
use Rattle.grid_map.specs.Order.{AreInOrder}
use Rattle.grid_map.proofs.Members.{members_by}
use Rattle.grid_map.proofs.Kept.{filter-flat_map, filter-map, filter-same, filter-none, any-filter}
use Rattle.grid_map.proofs.LeftOut.{leaves, keeps, kept, kept_of, IsKept, kept_is, shift_by, IsLeft, left_is, left_out}
use Rattle.grid_map.proofs.Order.{same_place-refl, same_place-true}

-- ---- one symbol

-- a subframe has 12 or 14 symbols
pub subframe_is : (carrier : Carrier) → (subframe_symbols carrier ≡ 12) ⊎ (subframe_symbols carrier ≡ 14)
subframe_is OnePort = inr refl
subframe_is TwoPorts = inr refl
subframe_is LongPrefix = inl refl
subframe_is FourPorts = inr refl

pub subframe_bounds : (carrier : Carrier) → (12 ≤ subframe_symbols carrier) × (subframe_symbols carrier ≤ 14)
subframe_bounds OnePort = (omega arith, omega arith)
subframe_bounds TwoPorts = (omega arith, omega arith)
subframe_bounds LongPrefix = (omega arith, omega arith)
subframe_bounds FourPorts = (omega arith, omega arith)

-- port 0's first subcarrier in a symbol of the subframe
abbrev first_in : Carrier → ℕ → ℕ → ℕ
first_in carrier identity symbol = pattern_first (pattern_of carrier 0) identity (symbol % slot_symbols carrier)

first_small : (carrier : Carrier) (identity symbol : ℕ) → first_in carrier identity symbol < 6
first_small carrier identity symbol = below (cond (nat_eq (symbol % slot_symbols carrier) 0) 0 3 + identity)
  where
    below : (n : ℕ) → n % 6 < 6
    below n = omega arith

-- the subcarriers left out in a symbol of the subframe, encoded in one number
abbrev shift_of : Carrier → ℕ → ℕ → ℕ
shift_of carrier identity symbol = shift_by (pilots_of_block carrier (symbol % slot_symbols carrier)) (first_in carrier identity symbol)

free_is : (carrier : Carrier) (identity symbol k : ℕ) → not (is_pilot_of carrier identity (place symbol k)) ≡ not (leaves (shift_of carrier identity symbol) k)
free_is carrier identity symbol k = ap not (left_out carrier identity (10 + symbol / slot_symbols carrier) (symbol % slot_symbols carrier) k)

-- the PDSCH's resource elements in a symbol
unfoldable pub row : Carrier → ℕ → ℕ → ℕ → ℕ → ℕ → List Place
row carrier identity cfi start blocks symbol = filter (is_shared_of carrier identity cfi start blocks) (symbol_places symbol)

row_none : (carrier : Carrier) (identity cfi start blocks symbol : ℕ) → (nat_lt cfi symbol && nat_lt symbol (subframe_symbols carrier) && not (is_synchronisation carrier symbol)) ≡ false →
    row carrier identity cfi start blocks symbol ≡ []
unfolding row
row_none carrier identity cfi start blocks symbol e =
    filter-map (is_shared_of carrier identity cfi start blocks) (place symbol) (range_with_len 0 72)
    ∙ ap (map (place symbol)) (filter-none (λ k. is_shared_of carrier identity cfi start blocks (place symbol k)) (λ k. rw e refl) (range_with_len 0 72))

row_is : (carrier : Carrier) (identity cfi start blocks symbol : ℕ) → nat_lt symbol (subframe_symbols carrier) ≡ true → nat_lt cfi symbol ≡ true → is_synchronisation carrier symbol ≡ false →
    row carrier identity cfi start blocks symbol ≡ map (place symbol) (kept (shift_of carrier identity symbol) start blocks)
unfolding row kept
row_is carrier identity cfi start blocks symbol inside after free =
    filter-map (is_shared_of carrier identity cfi start blocks) (place symbol) (range_with_len 0 72)
    ∙ ap (map (place symbol)) (filter-same (λ k. is_shared_of carrier identity cfi start blocks (place symbol k)) (keeps (shift_of carrier identity symbol) start blocks)
    (λ k. all_but _ _ _ _ _ _ after inside free (free_is carrier identity symbol k)) (range_with_len 0 72))
  where
    all_but : (a b c d e f : Bool) → a ≡ true → b ≡ true → c ≡ false → not d ≡ not e → (a && b && not c && not d && f) ≡ (not e && f)
    all_but true true false d e f p q r s = ap (λ (t : Bool). t && f) s
    all_but true true true d e f p q r s = absurd (false≢true (sym r))
    all_but true false c d e f p q r s = absurd (false≢true q)
    all_but false b c d e f p q r s = absurd (false≢true p)

pub record IsRow (carrier : Carrier) (identity start blocks symbol : ℕ) (places : List Place) : Type 0 where
  pub count : length places ≡ block_room carrier symbol * blocks
  pub at : (n : ℕ) → n < block_room carrier symbol * blocks → get_or places n (place 0 0) ≡ place symbol (12 * start + offset carrier identity symbol n)

pub is_row : (carrier : Carrier) (identity cfi start blocks symbol : ℕ) → start + blocks ≤ 6 → symbol < subframe_symbols carrier → cfi < symbol →
    IsRow carrier identity start blocks symbol (row carrier identity cfi start blocks symbol)
is_row carrier identity cfi start blocks symbol few l after = cases (is_synchronisation carrier symbol) refl
  where
    shift : ℕ
    shift = shift_of carrier identity symbol

    after' : nat_lt cfi symbol ≡ true
    after' = lt-ltb cfi symbol after

    inside : nat_lt symbol (subframe_symbols carrier) ≡ true
    inside = lt-ltb symbol (subframe_symbols carrier) l

    left : IsLeft (pilots_of_block carrier (symbol % slot_symbols carrier)) (first_in carrier identity symbol)
    left = left_is (first_in carrier identity symbol) (first_small carrier identity symbol) carrier (symbol % slot_symbols carrier)

    known : IsKept shift start blocks
    known = kept_is shift start blocks left.small few

    room : is_synchronisation carrier symbol ≡ false → kept_of shift ≡ block_room carrier symbol
    room e = left.stay ∙ rw e refl

    cases : (b : Bool) → is_synchronisation carrier symbol ≡ b → IsRow carrier identity start blocks symbol (row carrier identity cfi start blocks symbol)
    cases true e =
        let none = row_none carrier identity cfi start blocks symbol (rw (after', inside, e) refl) in
        let no_room : block_room carrier symbol ≡ 0 = rw e refl in
        rw none (record { count = rw no_room (sym (zero-mul blocks)); at = λ n below. absurd (let below' = rw no_room at below in omega (arith, below')) })
    cases false e =
        let is = row_is carrier identity cfi start blocks symbol inside after' e in
        let size : kept_of shift * blocks ≡ block_room carrier symbol * blocks = ap (λ n. n * blocks) (room e) in
        rw is (record {
          count = length-map (kept shift start blocks) (place symbol) ∙ known.count ∙ size;
          at = λ n below.
              let small : n < kept_of shift * blocks = rw size below in
              get_or-map (place symbol) (kept shift start blocks) n 0 (place 0 0) (rw known.count small)
              ∙ ap (place symbol) (known.at n small ∙ ap (λ m. 12 * start + m) (left.stand n));
        })

-- ---- consecutive symbols

-- the PDSCH's resource elements in n symbols from s
unfoldable pub rows : Carrier → ℕ → ℕ → ℕ → ℕ → ℕ → ℕ → List Place
rows carrier identity cfi start blocks s n = flat_map (row carrier identity cfi start blocks) (range_with_len s n)

rows_all : (carrier : Carrier) (identity cfi start blocks : ℕ) → shared_places_of carrier identity cfi start blocks ≡ rows carrier identity cfi start blocks 0 (subframe_symbols carrier)
unfolding shared_places_of places_of rows row
rows_all carrier identity cfi start blocks = filter-flat_map (is_shared_of carrier identity cfi start blocks) symbol_places (range_with_len 0 (subframe_symbols carrier))

rows_more : (carrier : Carrier) (identity cfi start blocks s n : ℕ) → rows carrier identity cfi start blocks s (suc n) ≡ row carrier identity cfi start blocks s ++ rows carrier identity cfi start blocks (s + 1) n
unfolding rows
rows_more carrier identity cfi start blocks s n = refl

pub rows_next : (carrier : Carrier) (identity cfi start blocks s last : ℕ) → s < last →
    rows carrier identity cfi start blocks s (last - s) ≡ row carrier identity cfi start blocks s ++ rows carrier identity cfi start blocks (s + 1) (last - (s + 1))
rows_next carrier identity cfi start blocks s last l =
    let e : last - s ≡ suc (last - (s + 1)) = omega arith in
    rw e (rows_more carrier identity cfi start blocks s (last - (s + 1)))

pub rows_end : (carrier : Carrier) (identity cfi start blocks s last : ℕ) → last ≤ s → rows carrier identity cfi start blocks s (last - s) ≡ []
unfolding rows
rows_end carrier identity cfi start blocks s last h = let e : last - s ≡ 0 = omega arith in rw e refl

-- the symbols of the control region contribute none
rows_skip : (carrier : Carrier) (identity cfi start blocks s last : ℕ) → s ≤ cfi → s < last →
    rows carrier identity cfi start blocks s (last - s) ≡ rows carrier identity cfi start blocks (s + 1) (last - (s + 1))
rows_skip carrier identity cfi start blocks s last h l =
    let e : nat_lt cfi s ≡ false = grind (arith, nat_tests) in
    let none = row_none carrier identity cfi start blocks s (rw e refl) in
    rows_next carrier identity cfi start blocks s last l ∙ rw none refl

rows_from : (carrier : Carrier) (identity cfi start blocks s last : ℕ) → s ≤ cfi → cfi < last →
    rows carrier identity cfi start blocks s (last - s) ≡ rows carrier identity cfi start blocks 0 last
rows_from carrier identity cfi start blocks zero last h l = let e : last - 0 ≡ last = omega arith in rw e refl
rows_from carrier identity cfi start blocks (suc s) last h l =
    let e : suc s ≡ s + 1 = omega arith in
    let before = rows_from carrier identity cfi start blocks s last (omega arith) l in
    rw e (sym (rows_skip carrier identity cfi start blocks s last (omega arith) (omega arith)) ∙ before)

pub rows_begin : (carrier : Carrier) (identity cfi start blocks : ℕ) → cfi < subframe_symbols carrier →
    shared_places_of carrier identity cfi start blocks ≡ rows carrier identity cfi start blocks (cfi + 1) (subframe_symbols carrier - (cfi + 1))
rows_begin carrier identity cfi start blocks l =
    let last : ℕ = subframe_symbols carrier in
    rows_all carrier identity cfi start blocks ∙ sym (rows_from carrier identity cfi start blocks cfi last (le_refl cfi) l)
    ∙ rows_skip carrier identity cfi start blocks cfi last (le_refl cfi) l

-- the resource element count in n symbols
rows_count : (carrier : Carrier) (identity cfi start blocks s n last : ℕ) → last ≡ subframe_symbols carrier → start + blocks ≤ 6 → cfi < s → s + n ≤ last →
    length (rows carrier identity cfi start blocks s n) ≡ block_rooms carrier s n * blocks
unfolding rows
rows_count carrier identity cfi start blocks s zero last is few after inside = sym (zero-mul blocks)
rows_count carrier identity cfi start blocks s (suc n) last is few after inside =
    let here = (is_row carrier identity cfi start blocks s few (subst (λ m. s < m) is (omega arith)) after).count in
    let rest = rows_count carrier identity cfi start blocks (s + 1) n last is few (omega arith) (omega arith) in
    length-append (row carrier identity cfi start blocks s) _ ∙ ap₂ (λ (a b : ℕ). a + b) here rest
    ∙ sym (add-mul (block_room carrier s) (block_rooms carrier (s + 1) n) blocks)

-- the resource element count after the control region
rows_behind : (carrier : Carrier) (identity cfi start blocks : ℕ) → cfi ≤ 3 → start + blocks ≤ 6 →
    length (shared_places_of carrier identity cfi start blocks) ≡ block_rooms carrier (cfi + 1) (subframe_symbols carrier - (cfi + 1)) * blocks
rows_behind carrier identity cfi start blocks high few = by (subframe_symbols carrier) refl (subframe_bounds carrier).0
  where
    by : (last : ℕ) → last ≡ subframe_symbols carrier → 12 ≤ last → length (shared_places_of carrier identity cfi start blocks) ≡ block_rooms carrier (cfi + 1) (subframe_symbols carrier - (cfi + 1)) * blocks
    by last is wide =
        ap (λ (ps : List Place). length ps) (rows_begin carrier identity cfi start blocks (subst (λ m. cfi < m) is (omega (arith, high, wide))))
        ∙ subst (λ m. length (rows carrier identity cfi start blocks (cfi + 1) (m - (cfi + 1))) ≡ block_rooms carrier (cfi + 1) (m - (cfi + 1)) * blocks) is
        (rows_count carrier identity cfi start blocks (cfi + 1) (last - (cfi + 1)) last is few (omega arith) (omega (arith, high, wide)))

pub pdsch_count : (carrier : Carrier) (identity cfi start blocks : ℕ) → 2 ≤ cfi → cfi ≤ 3 → start + blocks ≤ 6 →
    length (shared_places_of carrier identity cfi start blocks) ≡ block_places_of carrier cfi * blocks
pdsch_count carrier identity (suc (suc zero)) start blocks low high few = rows_behind carrier identity 2 start blocks high few
pdsch_count carrier identity (suc (suc (suc zero))) start blocks low high few = rows_behind carrier identity 3 start blocks high few
pdsch_count carrier identity zero start blocks low high few = absurd (omega arith)
pdsch_count carrier identity (suc zero) start blocks low high few = absurd (omega arith)
pdsch_count carrier identity (suc (suc (suc (suc cfi)))) start blocks low high few = absurd (omega arith)

-- the count over one more symbol
pub rooms_next : (carrier : Carrier) (s last : ℕ) → s < last → block_rooms carrier s (last - s) ≡ block_room carrier s + block_rooms carrier (s + 1) (last - (s + 1))
rooms_next carrier s last l = let e : last - s ≡ suc (last - (s + 1)) = omega arith in rw e refl

-- ---- the search for PDSCH symbol i, which is number `left` among those from a symbol

pub record IsAhead (carrier : Carrier) (identity cfi start blocks i symbol left : ℕ) : Type 0 where
  pub same : shared_place_of carrier identity cfi start blocks i ≡ get_or (rows carrier identity cfi start blocks symbol (subframe_symbols carrier - symbol)) left (place 0 0)
  pub inside : left < length (rows carrier identity cfi start blocks symbol (subframe_symbols carrier - symbol))

inside_subframe : (carrier : Carrier) (cfi : ℕ) → cfi ≤ 3 → cfi < subframe_symbols carrier
inside_subframe carrier cfi high = le_trans (omega (arith, high)) (subframe_bounds carrier).0

pub ahead_first : (carrier : Carrier) (identity cfi start blocks i : ℕ) → 2 ≤ cfi → cfi ≤ 3 → start + blocks ≤ 6 → i < block_places_of carrier cfi * blocks →
    IsAhead carrier identity cfi start blocks i (cfi + 1) i
unfolding shared_place_of
ahead_first carrier identity cfi start blocks i low high few inside =
    let is = rows_begin carrier identity cfi start blocks (inside_subframe carrier cfi high) in
    let count = pdsch_count carrier identity cfi start blocks low high few in
    record { same = ap (λ (ps : List Place). get_or ps i (place 0 0)) is; inside = rw (sym is) (rw count inside) }

-- a symbol is skipped if all its resource elements come before resource element i
pub ahead_later : (carrier : Carrier) (identity cfi start blocks i symbol left : ℕ) → start + blocks ≤ 6 → symbol < subframe_symbols carrier → cfi < symbol → block_room carrier symbol * blocks ≤ left →
    IsAhead carrier identity cfi start blocks i symbol left → IsAhead carrier identity cfi start blocks i (symbol + 1) (left - block_room carrier symbol * blocks)
ahead_later carrier identity cfi start blocks i symbol left few l after past known =
    let next = rows_next carrier identity cfi start blocks symbol (subframe_symbols carrier) l in
    let here = (is_row carrier identity cfi start blocks symbol few l after).count in
    let rest : List Place = rows carrier identity cfi start blocks (symbol + 1) (subframe_symbols carrier - (symbol + 1)) in
    let known' : left < length (row carrier identity cfi start blocks symbol ++ rest) = let h = known.inside in rw next at h in
    let long = length-append (row carrier identity cfi start blocks symbol) rest in
    record {
      same = known.same ∙ ap (λ (ps : List Place). get_or ps left (place 0 0)) next
          ∙ get_or-append_right (row carrier identity cfi start blocks symbol) rest (block_room carrier symbol * blocks) left (place 0 0) here past;
      inside = omega (arith, known', long, here, past);
    }

-- the search ends at the symbol that contains resource element i
pub ahead_here : (carrier : Carrier) (identity cfi start blocks i symbol left : ℕ) → start + blocks ≤ 6 → symbol < subframe_symbols carrier → cfi < symbol → left < block_room carrier symbol * blocks →
    IsAhead carrier identity cfi start blocks i symbol left → place symbol (12 * start + offset carrier identity symbol left) ≡ shared_place_of carrier identity cfi start blocks i
ahead_here carrier identity cfi start blocks i symbol left few l after inside known =
    let next = rows_next carrier identity cfi start blocks symbol (subframe_symbols carrier) l in
    let here = is_row carrier identity cfi start blocks symbol few l after in
    let count = here.count in
    sym (known.same ∙ ap (λ (ps : List Place). get_or ps left (place 0 0)) next
    ∙ get_or-append (row carrier identity cfi start blocks symbol) _ (place 0 0) left (rw count inside) ∙ here.at left inside)

pub ahead_never : (carrier : Carrier) (identity cfi start blocks i symbol left : ℕ) → subframe_symbols carrier ≤ symbol → IsAhead carrier identity cfi start blocks i symbol left → ⊥
ahead_never carrier identity cfi start blocks i symbol left past known =
    let h = known.inside in
    let h' = rw (rows_end carrier identity cfi start blocks symbol (subframe_symbols carrier) past) at h in
    omega (arith, h')

-- ---- laws

-- resource element n of the subframe
abbrev pub place_of : ℕ → Place
place_of n = place (n / 72) (n % 72)

pub places_are : (symbols : ℕ) → (symbols ≡ 12) ⊎ (symbols ≡ 14) → places_of 0 symbols ≡ values_below (72 * symbols) place_of
unfolding places_of
places_are symbols (inl is) = subst (λ n. places_of 0 n ≡ values_below (72 * n) place_of) (sym is) refl
places_are symbols (inr is) = subst (λ n. places_of 0 n ≡ values_below (72 * n) place_of) (sym is) refl

places_in_order : (n : ℕ) → AllPairs (λ (p q : Place). place_number p < place_number q) (values_below n place_of)
places_in_order n = λ i j d l m.
    let count = values_below-length n place_of in
    let first = values_below_at place_of n i d (omega (arith, l, m, count)) in
    let second = values_below_at place_of n j d (omega (arith, m, count)) in
    rw (first, second) (omega arith)

pub pdsch_in_order : (carrier : Carrier) (identity cfi start blocks i j : ℕ) → i < j → j < length (shared_places_of carrier identity cfi start blocks) →
    place_number (shared_place_of carrier identity cfi start blocks i) < place_number (shared_place_of carrier identity cfi start blocks j)
unfolding shared_places_of shared_place_of
pdsch_in_order carrier identity cfi start blocks i j l m =
    let last : ℕ = subframe_symbols carrier in
    AllPairs-filter (λ (p q : Place). place_number p < place_number q) (is_shared_of carrier identity cfi start blocks) (places_of 0 last)
    (subst (AllPairs (λ (p q : Place). place_number p < place_number q)) (sym (places_are last (subframe_is carrier))) (places_in_order (72 * last))) i j (place 0 0) l m

pub pdsch_once : (carrier : Carrier) (identity cfi start blocks i j : ℕ) → i < length (shared_places_of carrier identity cfi start blocks) → j < length (shared_places_of carrier identity cfi start blocks) →
    shared_place_of carrier identity cfi start blocks i ≡ shared_place_of carrier identity cfi start blocks j → i ≡ j
pdsch_once carrier identity cfi start blocks i j l m same = cases (cases_lt i j) (cases_lt j i)
  where
    numbers : place_number (shared_place_of carrier identity cfi start blocks i) ≡ place_number (shared_place_of carrier identity cfi start blocks j)
    numbers = ap place_number same

    cases : (i < j) ⊎ (j ≤ i) → (j < i) ⊎ (i ≤ j) → i ≡ j
    cases (inl a) q = absurd (let rises = pdsch_in_order carrier identity cfi start blocks i j a m in omega (arith, numbers, rises))
    cases (inr a) (inl b) = absurd (let rises = pdsch_in_order carrier identity cfi start blocks j i b l in omega (arith, numbers, rises))
    cases (inr a) (inr b) = omega (arith, a, b)

-- whether a resource element is in the first `symbols` symbols
abbrev is_before : ℕ → Place → Bool
is_before symbols p = nat_lt p.symbol symbols && nat_lt p.k 72

places_found : (symbols symbol k : ℕ) → symbol < symbols → k < 72 → list_any (same_place (place symbol k)) (values_below (72 * symbols) place_of) ≡ true
places_found symbols symbol k l m =
    let n : ℕ = 72 * symbol + k in
    let small : n < 72 * symbols = omega arith in
    let here = values_below_at place_of (72 * symbols) n (place 0 0) small in
    let back : place (n / 72) (n % 72) ≡ place symbol k = ap₂ place (omega arith) (omega arith) in
    list_any_at (same_place (place symbol k)) (values_below (72 * symbols) place_of) n (place 0 0)
    (omega (arith, values_below-length (72 * symbols) place_of, small)) (ap (same_place (place symbol k)) (here ∙ back) ∙ same_place-refl (place symbol k))

placed : (symbols : ℕ) (p : Place) (n : ℕ) → n < 72 * symbols → place_of n ≡ p → is_before symbols p ≡ true
placed symbols p n l here = subst (λ (q : Place). is_before symbols q ≡ true) here (grind (arith, nat_tests))

before_found : (symbols : ℕ) (p : Place) → list_any (same_place p) (values_below (72 * symbols) place_of) ≡ is_before symbols p
before_found symbols p = cases (is_before symbols p) refl
  where
    places : List Place
    places = values_below (72 * symbols) place_of

    inside : Contains places p → is_before symbols p ≡ true
    inside (n, l, here) =
        let small : n < 72 * symbols = omega (arith, l, values_below-length (72 * symbols) place_of) in
        placed symbols p n small (sym (values_below_at place_of (72 * symbols) n p small) ∙ here)

    none : is_before symbols p ≡ false → (b : Bool) → list_any (same_place p) places ≡ b → b ≡ false
    none out false e = refl
    none out true e = absurd (false≢true (sym out ∙ inside (Contains-from_any same_place-true p places e)))

    cases : (b : Bool) → is_before symbols p ≡ b → list_any (same_place p) places ≡ b
    cases true e = places_found symbols p.symbol p.k (grind (arith, nat_tests)) (grind (arith, nat_tests))
    cases false e = none e (list_any (same_place p) places) refl

-- a resource element in the subframe is in the 14-symbol grid
in_grid : (last cfi symbol k : ℕ) (c d e : Bool) → last ≤ 14 →
    (nat_lt symbol last && nat_lt k 72 && (nat_lt cfi symbol && nat_lt symbol last && c && d && e)) ≡ (nat_lt symbol 14 && nat_lt k 72 && (nat_lt cfi symbol && nat_lt symbol last && c && d && e))
in_grid last cfi symbol k c d e few = by (nat_lt symbol last) refl (nat_lt cfi symbol)
  where
    nothing_of : (a b : Bool) → (a && (b && false && c && d && e)) ≡ false
    nothing_of true true = refl
    nothing_of true false = refl
    nothing_of false b = refl

    by : (t : Bool) → nat_lt symbol last ≡ t → (a : Bool) → (t && nat_lt k 72 && (a && t && c && d && e)) ≡ (nat_lt symbol 14 && nat_lt k 72 && (a && t && c && d && e))
    by true is a = let wide : nat_lt symbol 14 ≡ true = grind (arith, nat_tests, few, is) in rw wide refl
    by false is a = sym (nothing_of (nat_lt symbol 14 && nat_lt k 72) a)

shared_found : (carrier : Carrier) (identity cfi start blocks : ℕ) (p : Place) →
    list_any (same_place p) (shared_places_of carrier identity cfi start blocks) ≡ (is_in_grid p && is_shared_of carrier identity cfi start blocks p)
unfolding shared_places_of
shared_found carrier identity cfi start blocks p =
    let last : ℕ = subframe_symbols carrier in
    any-filter same_place same_place-true (is_shared_of carrier identity cfi start blocks) p (places_of 0 last)
    ∙ ap (λ (b : Bool). b && is_shared_of carrier identity cfi start blocks p) (ap (list_any (same_place p)) (places_are last (subframe_is carrier)) ∙ before_found last p)
    ∙ in_grid last cfi p.symbol p.k _ _ _ (subframe_bounds carrier).1

pub pdsch_item : (carrier : Carrier) (identity cfi start blocks i : ℕ) → i < length (shared_places_of carrier identity cfi start blocks) →
    slice_get (shared_places_of carrier identity cfi start blocks) i ≡ Some (shared_place_of carrier identity cfi start blocks i)
unfolding shared_place_of
pdsch_item carrier identity cfi start blocks i l = slice_get-get_or (shared_places_of carrier identity cfi start blocks) i (place 0 0) l

pub pdsch_carries : (carrier : Carrier) (identity cfi start blocks i : ℕ) → i < length (shared_places_of carrier identity cfi start blocks) →
    is_shared_of carrier identity cfi start blocks (shared_place_of carrier identity cfi start blocks i) ≡ true
unfolding shared_place_of shared_places_of
pdsch_carries carrier identity cfi start blocks i l =
    let all : List Place = places_of 0 (subframe_symbols carrier) in
    All-contains (λ (p : Place). is_shared_of carrier identity cfi start blocks p ≡ true) (filter (is_shared_of carrier identity cfi start blocks) all) _
    (filter_passes (is_shared_of carrier identity cfi start blocks) all) (Contains-get_or _ i (place 0 0) l)

pub shared_in_order : (carrier : Carrier) (identity cfi start blocks : ℕ) → 2 ≤ cfi → cfi ≤ 3 → start + blocks ≤ 6 →
    AreInOrder place_number (shared_places_of carrier identity cfi start blocks) (block_places_of carrier cfi * blocks)
    (shared_place_of carrier identity cfi start blocks) (λ p. is_in_grid p && is_shared_of carrier identity cfi start blocks p)
shared_in_order carrier identity cfi start blocks low high few =
    let count = pdsch_count carrier identity cfi start blocks low high few in
    record {
      size = count;
      item = λ i l. pdsch_item carrier identity cfi start blocks i (omega (arith, l, count));
      rise = λ i j l m. pdsch_in_order carrier identity cfi start blocks i j l (omega (arith, m, count));
      members = members_by same_place same_place-true same_place-refl _ _ (shared_found carrier identity cfi start blocks);
    }
