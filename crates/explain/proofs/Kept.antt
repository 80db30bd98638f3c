-- The kept entries, and their list.
use Rattle.std.proofs.Common.{◌≡◌, ◌⊎◌, inl, inr, ℕ, ◌+◌, ◌-◌, ◌*◌, ◌%◌, ◌<◌, ◌≤◌, Bool, true, false, ◌&&◌, nat_eq, nat_le, List, [], ◌∷◌, ◌++◌, length, get_or, arith, refl, ap, sym, subst, ◌∙◌, append-nil, append_assoc}
use Rattle.std.specs.Prelude.{if◌then◌else◌}
use Rattle.std.specs.List.{fold, list_any, AllWithin, HoldsAt, AllPairs, Contains, insert}
use Rattle.std.specs.List.Sorted.{IsPermutation}
use Rattle.std.proofs.lemmas.Bool.{cases_lt}
use Rattle.std.proofs.lemmas.Bool.Decides.{nat_tests}
use Rattle.std.proofs.lemmas.List.Elements.{Contains-append_left, Contains-append_right, Contains-push, Contains-push_cases, Contains-get_or}
use Rattle.std.proofs.lemmas.List.Sums.{fold-append}
use Rattle.std.proofs.lemmas.List.Folds.{list_any-from_Any, Any-from_list_any}
use Rattle.std.proofs.lemmas.List.Edits.{length-insert, get_or-insert_below, get_or-insert_at, get_or-insert_above}
use Rattle.std.proofs.lemmas.List.Sorted.{IsPermutation-trans, IsPermutation-cons, IsPermutation-to_front, IsPermutation-insert, list_any-IsPermutation}
use Rattle.finite.proofs.Lists.{AllPairs-append, only_one}
use Rattle.lte_types.specs.declared.entry.Entry.{Entry}
use Rattle.explain.specs.Entries.{epoch, distance, is_same_cell, with_entry, kept, IsBefore, IsListOf, Adds}
use Rattle.explain.specs.Laws.{StandsFor}
use Rattle.explain.proofs.Sorted.{in_none, in_cons, Contains-here, Contains-later}

-- ---- one cell

same_distance : (a b : ℕ) → distance a b ≡ distance b a
same_distance a b = omega arith

same_test : (m n : ℕ) → nat_eq m n ≡ nat_eq n m
same_test m n = grind (arith, nat_tests)

pub same_cell_turned : (a b : Entry) → is_same_cell a b ≡ is_same_cell b a
same_cell_turned a b =
    ap (λ e. e && nat_le (distance (epoch a) (epoch b)) 9) (same_test a.id b.id)
    ∙ ap (λ d. nat_eq b.id a.id && nat_le d 9) (same_distance (epoch a) (epoch b))

no_distance : (m n x y : ℕ) → m ≡ n → x ≡ y → (nat_eq m n && nat_le (distance x y) 9) ≡ true
no_distance m n x y e f = grind (arith, nat_tests, e, f)

-- entries with equal identities, starts and frame numbers belong to one cell
pub same_place_same_cell : (a b : Entry) → a.id ≡ b.id → a.start ≡ b.start → a.sfn ≡ b.sfn → is_same_cell a b ≡ true
same_place_same_cell a b id start sfn =
    no_distance a.id b.id (epoch a) (epoch b) id
    (ap (λ f. (f + (19660800 - 19200 * a.sfn)) % 19660800) start ∙ ap (λ n. (b.start + (19660800 - 19200 * n)) % 19660800) sfn)

-- ---- keeping

pub kept_more : (entries : List Entry) (entry : Entry) → kept (entries ++ entry ∷ []) ≡ with_entry (kept entries) entry
kept_more entries entry = fold-append with_entry [] entries (entry ∷ [])

-- a kept entry stays
pub with_entry_keeps : (acc : List Entry) (entry x : Entry) → Contains acc x → Contains (with_entry acc entry) x
with_entry_keeps acc entry x h = settle (list_any (λ other. is_same_cell other entry) acc)
  where
    settle : (b : Bool) → Contains (if b then acc else acc ++ entry ∷ []) x
    settle true = h
    settle false = Contains-append_left acc (entry ∷ []) x h

-- nothing else is kept
with_entry_only : (acc : List Entry) (entry x : Entry) → Contains (with_entry acc entry) x → Contains acc x ⊎ (entry ≡ x)
with_entry_only acc entry x h = settle (list_any (λ other. is_same_cell other entry) acc) h
  where
    settle : (b : Bool) → Contains (if b then acc else acc ++ entry ∷ []) x → Contains acc x ⊎ (entry ≡ x)
    settle true c = inl c
    settle false c = Contains-push_cases acc entry x c

fold_keeps : (acc entries : List Entry) (x : Entry) → Contains acc x → Contains (fold with_entry acc entries) x
fold_keeps acc [] x h = h
fold_keeps acc (e ∷ es) x h = fold_keeps (with_entry acc e) es x (with_entry_keeps acc e x h)

fold_only : (acc entries : List Entry) (x : Entry) → Contains (fold with_entry acc entries) x → Contains acc x ⊎ Contains entries x
fold_only acc [] x h = inl h
fold_only acc (e ∷ es) x h = elim (fold_only (with_entry acc e) es x h) [
  | inl before ↦ elim (with_entry_only acc e x before) [ inl kept_before ↦ inl kept_before | inr is ↦ inr (subst (Contains (e ∷ es)) is (Contains-here e es)) ]
  | inr later ↦ inr (Contains-append_right (e ∷ []) es x later)
]

-- a kept entry is one of the entries
pub kept_only : (entries : List Entry) (x : Entry) → Contains (kept entries) x → Contains entries x
kept_only entries x h = elim (fold_only [] entries x h) [ inl none ↦ absurd (in_none x none) | inr c ↦ c ]

-- an entry, or another entry of its cell, is in the list
with_entry_stands : (acc : List Entry) (entry : Entry) → (other : Entry) × StandsFor (with_entry acc entry) entry other
with_entry_stands acc entry = settle (list_any (λ other. is_same_cell other entry) acc) refl
  where
    settle : (b : Bool) → list_any (λ other. is_same_cell other entry) acc ≡ b → (other : Entry) × StandsFor (if b then acc else acc ++ entry ∷ []) entry other
    settle true e = let (k, x, l, is, same) = Any-from_list_any (λ other. is_same_cell other entry) acc e in (x, record { inside = (k, l, is); same = inr same })
    settle false e = (entry, record { inside = Contains-push acc entry; same = inl refl })

fold_stands : (acc entries : List Entry) (x : Entry) → Contains entries x → (other : Entry) × StandsFor (fold with_entry acc entries) x other
fold_stands acc [] x h = absurd (in_none x h)
fold_stands acc (e ∷ es) x h = elim (in_cons e es x h) [
  | inl is ↦ subst (λ y. (other : Entry) × StandsFor (fold with_entry acc (e ∷ es)) y other) is (first (with_entry_stands acc e))
  | inr later ↦ fold_stands (with_entry acc e) es x later
]
  where
    first : ((other : Entry) × StandsFor (with_entry acc e) e other) → (other : Entry) × StandsFor (fold with_entry acc (e ∷ es)) e other
    first (other, s) = (other, record { inside = fold_keeps (with_entry acc e) es other s.inside; same = s.same })

pub kept_stands : (entries : List Entry) (x : Entry) → Contains entries x → (other : Entry) × StandsFor (kept entries) x other
kept_stands entries x h = fold_stands [] entries x h

-- no two kept entries belong to one cell
abbrev pub IsOtherCell : Entry → Entry → Type 0
IsOtherCell a b = is_same_cell a b ≡ false

none_same : (acc : List Entry) (entry x : Entry) → list_any (λ other. is_same_cell other entry) acc ≡ false → Contains acc x → is_same_cell x entry ≡ false
none_same acc entry x e (k, l, is) = settle (is_same_cell x entry) refl
  where
    settle : (b : Bool) → is_same_cell x entry ≡ b → b ≡ false
    settle false same = refl
    settle true same = let found : list_any (λ other. is_same_cell other entry) acc ≡ true = list_any-from_Any (λ other. is_same_cell other entry) acc (k, x, l, is, same) in cc (found, e)

with_entry_apart : (acc : List Entry) (entry : Entry) → AllPairs IsOtherCell acc → AllPairs IsOtherCell (with_entry acc entry)
with_entry_apart acc entry h = settle (list_any (λ other. is_same_cell other entry) acc) refl
  where
    settle : (b : Bool) → list_any (λ other. is_same_cell other entry) acc ≡ b → AllPairs IsOtherCell (if b then acc else acc ++ entry ∷ [])
    settle true e = h
    settle false e = AllPairs-append IsOtherCell acc (entry ∷ []) h (λ i j d below inside. absurd (omega (arith, below, inside)))
        (λ x y a b. subst (λ z. is_same_cell x z ≡ false) (only_one entry y b) (none_same acc entry x e a))

fold_apart : (acc entries : List Entry) → AllPairs IsOtherCell acc → AllPairs IsOtherCell (fold with_entry acc entries)
fold_apart acc [] h = h
fold_apart acc (e ∷ es) h = fold_apart (with_entry acc e) es (with_entry_apart acc e h)

pub kept_apart : (entries : List Entry) → AllPairs IsOtherCell (kept entries)
kept_apart entries = fold_apart [] entries (λ i j d below inside. absurd (omega (arith, inside)))

-- ---- order

pub before_after : (a b : Entry) → IsBefore a b → IsBefore b a → ⊥
before_after a b h k = grind (arith, h, k)

before_trans : (a b c : Entry) → IsBefore a b → IsBefore b c → IsBefore a c
before_trans a b c h k = grind (arith, h, k)

-- of two entries from different cells, one comes before the other
other_before : (a b : Entry) → is_same_cell a b ≡ false → (IsBefore a b → ⊥) → IsBefore b a
other_before a b apart not_before = by_start (cases_lt a.start b.start) (cases_lt b.start a.start)
  where
    by_sfn : a.start ≡ b.start → a.id ≡ b.id → (a.sfn < b.sfn) ⊎ (b.sfn ≤ a.sfn) → (b.sfn < a.sfn) ⊎ (a.sfn ≤ b.sfn) → b.sfn < a.sfn
    by_sfn start id (inl less) other = absurd (not_before (inr (start, inr (id, less))))
    by_sfn start id (inr low) (inl less) = less
    by_sfn start id (inr low) (inr high) = absurd (let same = same_place_same_cell a b id start (omega (arith, low, high)) in cc (same, apart))

    by_id : a.start ≡ b.start → (a.id < b.id) ⊎ (b.id ≤ a.id) → (b.id < a.id) ⊎ (a.id ≤ b.id) → (b.id < a.id) ⊎ ((b.id ≡ a.id) × (b.sfn < a.sfn))
    by_id start (inl less) other = absurd (not_before (inr (start, inl less)))
    by_id start (inr low) (inl less) = inl less
    by_id start (inr low) (inr high) = let same : a.id ≡ b.id = omega (arith, low, high) in inr (sym same, by_sfn start same (cases_lt a.sfn b.sfn) (cases_lt b.sfn a.sfn))

    by_start : (a.start < b.start) ⊎ (b.start ≤ a.start) → (b.start < a.start) ⊎ (a.start ≤ b.start) → IsBefore b a
    by_start (inl less) other = absurd (not_before (inl less))
    by_start (inr low) (inl less) = inl less
    by_start (inr low) (inr high) = let same : a.start ≡ b.start = omega (arith, low, high) in inr (sym same, by_id same (cases_lt a.id b.id) (cases_lt b.id a.id))

-- ---- a list with one more entry

pub decoded_already : (before list : List Entry) (entry : Entry) → IsListOf before list → list_any (λ other. is_same_cell other entry) list ≡ true → IsListOf (before ++ entry ∷ []) list
decoded_already before list entry h e =
    let decoded = list_any-IsPermutation (λ other. is_same_cell other entry) (kept before) list h.same ∙ e in
    let same : kept (before ++ entry ∷ []) ≡ kept before = kept_more before entry ∙ ap (λ b. if b then kept before else kept before ++ entry ∷ []) decoded in
    record { same = subst (λ l. IsPermutation l list) (sym same) h.same; in_order = h.in_order }

inserted_in_order : (list : List Entry) (entry : Entry) (at : ℕ) → AllPairs IsBefore list → at ≤ length list →
    AllWithin (λ other. IsBefore other entry) list 0 at → (at < length list → HoldsAt (IsBefore entry) list at) → AllPairs IsBefore (insert list at entry)
inserted_in_order list entry at order within before after i j d below inside =
    place (cases_lt i at) (cases_lt j at)
  where
    long : length (insert list at entry) ≡ length list + 1
    long = length-insert list at entry within

    -- the entry comes before those that moved up
    moved : (k : ℕ) → at ≤ k → k < length list → IsBefore entry (get_or list k d)
    moved k above last = elim (cases_lt at k) [
      | inl past ↦ before_trans entry (get_or list at d) (get_or list k d) (after (omega (arith, above, last)) d) (order at k d past last)
      | inr here ↦ let e : k ≡ at = omega (arith, above, here) in subst (λ m. IsBefore entry (get_or list m d)) (sym e) (after (omega (arith, above, last)) d)
    ]

    -- the items from index `at` on
    above_at : (m : ℕ) → at ≤ m → m < length list + 1 → (m ≡ at) ⊎ ((k : ℕ) × (m ≡ k + 1) × (at ≤ k) × (k < length list))
    above_at m low high = elim (cases_lt at m) [
      | inl past ↦ inr (m - 1, omega (arith, past), omega (arith, past), omega (arith, past, high))
      | inr here ↦ inl (omega (arith, low, here))
    ]

    at_entry : get_or (insert list at entry) at d ≡ entry
    at_entry = get_or-insert_at list at entry d within

    both_above : (i ≡ at) ⊎ ((k : ℕ) × (i ≡ k + 1) × (at ≤ k) × (k < length list)) → (j ≡ at) ⊎ ((k : ℕ) × (j ≡ k + 1) × (at ≤ k) × (k < length list)) →
        IsBefore (get_or (insert list at entry) i d) (get_or (insert list at entry) j d)
    both_above (inl ei) (inl ej) = absurd (omega (arith, ei, ej, below))
    both_above (inr (k, ek, above, last)) (inl ej) = absurd (omega (arith, ek, ej, above, below))
    both_above (inl ei) (inr (k, ek, above, last)) =
        rw (ei, ek, at_entry, get_or-insert_above list at entry d k above within) (moved k above last)
    both_above (inr (m, em, low, first)) (inr (k, ek, above, last)) =
        rw (em, ek, get_or-insert_above list at entry d m low within, get_or-insert_above list at entry d k above within) (order m k d (omega (arith, em, ek, below)) last)

    one_below : i < at → (j ≡ at) ⊎ ((k : ℕ) × (j ≡ k + 1) × (at ≤ k) × (k < length list)) → IsBefore (get_or (insert list at entry) i d) (get_or (insert list at entry) j d)
    one_below low (inl ej) = rw (ej, at_entry, get_or-insert_below list at entry d i low within) (before i d (omega arith) low)
    one_below low (inr (k, ek, above, last)) =
        rw (ek, get_or-insert_below list at entry d i low within, get_or-insert_above list at entry d k above within) (order i k d (omega (arith, low, above)) last)

    place : (i < at) ⊎ (at ≤ i) → (j < at) ⊎ (at ≤ j) → IsBefore (get_or (insert list at entry) i d) (get_or (insert list at entry) j d)
    place (inl low) (inl also) =
        rw (get_or-insert_below list at entry d i low within, get_or-insert_below list at entry d j also within) (order i j d below (omega (arith, also, within)))
    place (inl low) (inr above) = one_below low (above_at j above (omega (arith, long, inside)))
    place (inr high) (inl low) = absurd (omega (arith, high, low, below))
    place (inr high) (inr above) = both_above (above_at i high (omega (arith, long, inside, below))) (above_at j above (omega (arith, long, inside)))

pub decoded_now : (before list : List Entry) (entry : Entry) (at : ℕ) → IsListOf before list → list_any (λ other. is_same_cell other entry) list ≡ false →
    at ≤ length list → AllWithin (λ other. IsBefore other entry) list 0 at → (at < length list → HoldsAt (λ other. ¬ IsBefore other entry) list at) →
    IsListOf (before ++ entry ∷ []) (insert list at entry)
decoded_now before list entry at h e within front back =
    let decoded = list_any-IsPermutation (λ other. is_same_cell other entry) (kept before) list h.same ∙ e in
    let same : kept (before ++ entry ∷ []) ≡ kept before ++ entry ∷ [] = kept_more before entry ∙ ap (λ b. if b then kept before else kept before ++ entry ∷ []) decoded in
    let moved : IsPermutation (kept before ++ entry ∷ []) (insert list at entry) =
    IsPermutation-trans _ (entry ∷ kept before) _ (IsPermutation-to_front (kept before) entry)
    (IsPermutation-trans _ (entry ∷ list) _ (IsPermutation-cons entry (kept before) list h.same) (IsPermutation-insert list at entry)) in
    record {
      same = subst (λ l. IsPermutation l (insert list at entry)) (sym same) moved;
      in_order = inserted_in_order list entry at h.in_order within front
          (λ inside d. other_before (get_or list at d) entry (none_same list entry (get_or list at d) e (Contains-get_or list at d inside)) (back inside d));
    }

-- adding nothing changes nothing
pub adds_none : (list : List Entry) → Adds [] list list
adds_none list before h = subst (λ l. IsListOf l list) (sym (append-nil before)) h

-- two additions, one after the other
pub adds_more : (first second a b d : List Entry) → Adds first a b → Adds second b d → Adds (first ++ second) a d
adds_more first second a b d p q before h = subst (λ l. IsListOf l d) (append_assoc before first second) (q (before ++ first) (p before h))

-- entries whose cells are all in the list add nothing
pub adds_again : (entries list : List Entry) → ((entry : Entry) → Contains entries entry → list_any (λ other. is_same_cell other entry) list ≡ true) → Adds entries list list
adds_again [] list each = adds_none list
adds_again (e ∷ es) list each =
    adds_more (e ∷ []) es list list list (λ before h. decoded_already before list e h (each e (Contains-here e es))) (adds_again es list (λ x h. each x (Contains-later e es x h)))

-- for each entry from which a list is made, an entry of its cell is in the list
pub stands_in : (entries list : List Entry) (entry : Entry) → IsListOf entries list → Contains entries entry → list_any (λ other. is_same_cell other entry) list ≡ true
stands_in entries list entry h inside =
    let (other, s) = kept_stands entries entry inside in
    let (k, l, is) = s.inside in
    sym (list_any-IsPermutation (λ other. is_same_cell other entry) (kept entries) list h.same)
    ∙ list_any-from_Any (λ other. is_same_cell other entry) (kept entries) (k, other, l, is, same_cell other s.same)
  where
    same_cell : (other : Entry) → (other ≡ entry) ⊎ (is_same_cell other entry ≡ true) → is_same_cell other entry ≡ true
    same_cell other (inl e) = same_place_same_cell other entry (ap (λ (x : Entry). x.id) e) (ap (λ (x : Entry). x.start) e) (ap (λ (x : Entry). x.sfn) e)
    same_cell other (inr e) = e
