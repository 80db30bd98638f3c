-- The resource elements in a resource-element group.
use Rattle.std.proofs.Common.{ℕ, zero, suc, ◌+◌, ◌*◌, ◌/◌, ◌%◌, ◌<◌, ◌≤◌, ◌≡◌, ◌↔◌, ◌∷◌, [], Bool, true, false, not, ◌&&◌, ◌||◌, cond, nat_eq, nat_le, nat_lt, List, filter, map, length, get_or, refl, ap, ap₂, sym, ◌∙◌, subst, arith}
use Rattle.std.specs.List.{All, Contains, list_any, range_with_len}
use Rattle.std.proofs.lemmas.Bool.{false≢true}
use Rattle.std.proofs.lemmas.Bool.Decides.{nat_tests}
use Rattle.std.proofs.lemmas.List.Elements.{All-contains, All-contains_itself, All-weaker, filter_passes}
use Rattle.std.proofs.lemmas.Option.{slice_get-get_or}
use Rattle.grid_map.specs.declared.Place.{Place}
use Rattle.grid_map.specs.declared.Reg.{Reg}
use Rattle.grid_map.specs.Place.{place, same_place, skipping}
use Rattle.grid_map.specs.Group.{group, span, spanned, is_group, is_kept, is_of_group, group_places}
use Rattle.grid_map.specs.Order.{AreInOrder}
use Rattle.grid_map.proofs.Members.{members_by}
use Rattle.grid_map.proofs.Kept.{any-filter}
use Rattle.grid_map.proofs.Order.{same_place-refl, same_place-true}

abbrev pub four : {A : Type 0} → (ℕ → A) → List A
four f = f 0 ∷ f 1 ∷ f 2 ∷ f 3 ∷ []

four-same : {A : Type 0} (a b c d e f g h : A) → a ≡ e → b ≡ f → c ≡ g → d ≡ h → a ∷ b ∷ c ∷ d ∷ [] ≡ e ∷ f ∷ g ∷ h ∷ []
four-same a b c d e f g h p q r s = cc

-- the offset of resource element i from the group's first subcarrier
abbrev pub step_to : ℕ → ℕ → ℕ → ℕ
step_to symbol shift i = cond (nat_eq symbol 0) (3 * (i / 2) + skipping shift (i % 2)) i

abbrev pub nth_in : ℕ → Reg → ℕ → Place
nth_in shift g i = place g.symbol (g.first + step_to g.symbol shift i)

-- ---- symbol 0

in_first : (shift first : ℕ) → shift < 3 → first % 6 ≡ 0 →
    filter (λ (p : Place). not (nat_eq p.symbol 0 && nat_eq (p.k % 3) shift)) (spanned (group 0 first)) ≡ four (nth_in shift (group 0 first))
in_first shift first few e = cases shift few
  where
    e0 : first % 3 ≡ 0
    e0 = omega arith

    e1 : (first + 1) % 3 ≡ 1
    e1 = omega arith

    e2 : (first + 1 + 1) % 3 ≡ 2
    e2 = omega arith

    e3 : (first + 1 + 1 + 1) % 3 ≡ 0
    e3 = omega arith

    e4 : (first + 1 + 1 + 1 + 1) % 3 ≡ 1
    e4 = omega arith

    e5 : (first + 1 + 1 + 1 + 1 + 1) % 3 ≡ 2
    e5 = omega arith

    cases : (s : ℕ) → s < 3 → filter (λ (p : Place). not (nat_eq p.symbol 0 && nat_eq (p.k % 3) s)) (spanned (group 0 first)) ≡ four (nth_in s (group 0 first))
    cases zero l = simp (e0, e1, e2, e3, e4, e5) (four-same _ _ _ _ _ _ _ _ (ap (place 0) (omega arith)) (ap (place 0) (omega arith)) (ap (place 0) (omega arith)) (ap (place 0) (omega arith)))
    cases (suc zero) l = simp (e0, e1, e2, e3, e4, e5) (four-same _ _ _ _ _ _ _ _ (ap (place 0) (omega arith)) (ap (place 0) (omega arith)) (ap (place 0) (omega arith)) (ap (place 0) (omega arith)))
    cases (suc (suc zero)) l = simp (e0, e1, e2, e3, e4, e5) (four-same _ _ _ _ _ _ _ _ (ap (place 0) (omega arith)) (ap (place 0) (omega arith)) (ap (place 0) (omega arith)) (ap (place 0) (omega arith)))
    cases (suc (suc (suc s))) l = absurd (omega arith)

-- ---- later symbols

in_later : (shift symbol first : ℕ) → nat_eq symbol 0 ≡ false →
    filter (λ (p : Place). not (nat_eq p.symbol 0 && nat_eq (p.k % 3) shift)) (spanned (group symbol first)) ≡ four (nth_in shift (group symbol first))
in_later shift symbol first e =
    simp e (four-same _ _ _ _ _ _ _ _ (ap (place symbol) (omega arith)) (ap (place symbol) (omega arith)) (ap (place symbol) (omega arith)) (ap (place symbol) (omega arith)))

-- a valid group
pub record IsGroup (g : Reg) : Type 0 where
  pub symbol : g.symbol < 4
  pub first : g.first < 72
  pub begins : cond (nat_eq g.symbol 0) (g.first % 6) (g.first % 4) ≡ 0

pub group_is : (g : Reg) → is_group g ≡ true → IsGroup g
group_is g is = record { symbol = grind (arith, nat_tests); first = grind (arith, nat_tests); begins = grind (arith, nat_tests) }

pub group_begins : (g : Reg) → is_group g ≡ true → nat_eq g.symbol 0 ≡ true → g.first % 6 ≡ 0
group_begins g is e = rw e at (group_is g is).begins

-- a group's four resource elements
pub group_places-four : (identity : ℕ) (g : Reg) → is_group g ≡ true → group_places identity g ≡ four (nth_in (identity % 3) g)
unfolding group_places
group_places-four identity g is = cases (nat_eq g.symbol 0) refl
  where
    cases : (b : Bool) → nat_eq g.symbol 0 ≡ b → filter (λ p. not (is_kept identity p)) (spanned g) ≡ four (nth_in (identity % 3) g)
    cases true e =
        let zeroth : g.symbol ≡ 0 = grind (arith, nat_tests) in
        let here : g ≡ group 0 g.first = ap (λ n. group n g.first) zeroth in
        subst (λ (h : Reg). filter (λ p. not (is_kept identity p)) (spanned h) ≡ four (nth_in (identity % 3) h)) (sym here)
        (in_first (identity % 3) g.first (omega arith) (group_begins g is e))
    cases false e = in_later (identity % 3) g.symbol g.first e

pub four_places : (identity : ℕ) (g : Reg) → is_group g ≡ true → length (group_places identity g) ≡ 4
four_places identity g is = rw (group_places-four identity g is) refl

four_at : {A : Type 0} (f : ℕ → A) (i : ℕ) (d : A) → i < 4 → get_or (four f) i d ≡ f i
four_at f zero d l = refl
four_at f (suc zero) d l = refl
four_at f (suc (suc zero)) d l = refl
four_at f (suc (suc (suc zero))) d l = refl
four_at f (suc (suc (suc (suc i)))) d l = absurd (omega arith)

place_at : (identity : ℕ) (g : Reg) (i : ℕ) (d : Place) → is_group g ≡ true → i < 4 → get_or (group_places identity g) i d ≡ nth_in (identity % 3) g i
place_at identity g i d is l = rw (group_places-four identity g is) (four_at (nth_in (identity % 3) g) i d l)

-- in symbol 0, offsets increase
steps_first : (shift i j : ℕ) → shift < 3 → i < j → j < 4 → 3 * (i / 2) + skipping shift (i % 2) < 3 * (j / 2) + skipping shift (j % 2)
steps_first shift i zero few l m = absurd (omega arith)
steps_first shift zero (suc zero) few l m = grind (arith, nat_tests)
steps_first shift zero (suc (suc zero)) few l m = grind (arith, nat_tests)
steps_first shift zero (suc (suc (suc zero))) few l m = grind (arith, nat_tests)
steps_first shift (suc zero) (suc (suc zero)) few l m = grind (arith, nat_tests)
steps_first shift (suc zero) (suc (suc (suc zero))) few l m = grind (arith, nat_tests)
steps_first shift (suc (suc zero)) (suc (suc (suc zero))) few l m = grind (arith, nat_tests)
steps_first shift (suc i) (suc zero) few l m = absurd (omega arith)
steps_first shift (suc (suc i)) (suc (suc zero)) few l m = absurd (omega arith)
steps_first shift (suc (suc (suc i))) (suc (suc (suc zero))) few l m = absurd (omega arith)
steps_first shift i (suc (suc (suc (suc j)))) few l m = absurd (omega arith)

steps_rise : (symbol shift i j : ℕ) → shift < 3 → i < j → j < 4 → step_to symbol shift i < step_to symbol shift j
steps_rise symbol shift i j few l m = cases (nat_eq symbol 0)
  where
    cases : (b : Bool) → cond b (3 * (i / 2) + skipping shift (i % 2)) i < cond b (3 * (j / 2) + skipping shift (j % 2)) j
    cases true = steps_first shift i j few l m
    cases false = l

pub places_rise : (identity : ℕ) (g : Reg) (i j : ℕ) → is_group g ≡ true → i < j → j < 4 →
    (get_or (group_places identity g) i (place 0 0)).k < (get_or (group_places identity g) j (place 0 0)).k
places_rise identity g i j is l m =
    let steps = steps_rise g.symbol (identity % 3) i j (omega arith) l m in
    rw (place_at identity g i (place 0 0) is (omega arith), place_at identity g j (place 0 0) is m) (omega (arith, steps))

-- offsets are within the span
steps_short : (symbol shift i : ℕ) → i < 4 → step_to symbol shift i < span symbol
steps_short symbol shift i l = cases (nat_eq symbol 0)
  where
    cases : (b : Bool) → cond b (3 * (i / 2) + skipping shift (i % 2)) i < cond b 6 4
    cases true = grind (arith, nat_tests)
    cases false = l

-- a resource element in the group's symbol and span
pub record IsSpanned (g : Reg) (p : Place) : Type 0 where
  pub symbol : p.symbol ≡ g.symbol
  pub from : g.first ≤ p.k
  pub before : p.k < g.first + span g.symbol

place_is_spanned : (identity : ℕ) (g : Reg) (p : Place) → is_group g ≡ true → Contains (group_places identity g) p → IsSpanned g p
place_is_spanned identity g p is (i, inside, here) =
    let few : i < 4 = omega (arith, four_places identity g is) in
    let at = sym (place_at identity g i p is few) ∙ here in
    let short = steps_short g.symbol (identity % 3) i few in
    subst (IsSpanned g) at (record { symbol = refl; from = omega arith; before = omega (arith, short) })

-- a group begins at a multiple of its span
begins_at : (g : Reg) → is_group g ≡ true → g.first % span g.symbol ≡ 0
begins_at g is = grind (arith, nat_tests)

not_kept : (identity : ℕ) (g : Reg) (p : Place) → Contains (group_places identity g) p → is_kept identity p ≡ true → ⊥
unfolding group_places
not_kept identity g p has kept =
    let passes = All-contains (λ (q : Place). not (is_kept identity q) ≡ true) (group_places identity g) p (filter_passes (λ (q : Place). not (is_kept identity q)) (spanned g)) has in
    false≢true (ap not (sym kept) ∙ passes)

pub places_inside : (identity : ℕ) (g : Reg) (p : Place) → is_group g ≡ true → Contains (group_places identity g) p →
    (p.symbol ≡ g.symbol) × (p.k < 72) × (is_kept identity p ≡ true → ⊥)
places_inside identity g p is has =
    let at = place_is_spanned identity g p is has in
    (at.symbol, ends (nat_eq g.symbol 0) g.first p.k (begins_at g is) (group_is g is).first at.before, not_kept identity g p has)
  where
    ends : (b : Bool) (first k : ℕ) → first % cond b 6 4 ≡ 0 → first < 72 → k < first + cond b 6 4 → k < 72
    ends true first k e l m = omega arith
    ends false first k e l m = omega arith

pub places_apart : (identity : ℕ) (g h : Reg) (p : Place) → is_group g ≡ true → is_group h ≡ true →
    Contains (group_places identity g) p → Contains (group_places identity h) p → g ≡ h
places_apart identity g h p is is' has has' =
    let at = place_is_spanned identity g p is has in
    let at' = place_is_spanned identity h p is' has' in
    let same : h.symbol ≡ g.symbol = sym at'.symbol ∙ at.symbol in
    let begins' = rw same at (begins_at h is') in
    let before' = rw same at at'.before in
    ap₂ group (sym same) (one_start (nat_eq g.symbol 0) g.first h.first p.k (begins_at g is) begins' at.from at.before at'.from before')
  where
    one_start : (b : Bool) (x y k : ℕ) → x % cond b 6 4 ≡ 0 → y % cond b 6 4 ≡ 0 → x ≤ k → k < x + cond b 6 4 → y ≤ k → k < y + cond b 6 4 → x ≡ y
    one_start true x y k d e l m n o = omega arith
    one_start false x y k d e l m n o = omega arith

pub all_inside : (identity : ℕ) (g : Reg) → is_group g ≡ true → All (λ (p : Place). (p.symbol ≡ g.symbol) × (p.k < 72)) (group_places identity g)
all_inside identity g is =
    All-weaker (Contains (group_places identity g)) (λ (p : Place). (p.symbol ≡ g.symbol) × (p.k < 72))
    (λ p has. let inside = places_inside identity g p is has in (inside.0, inside.1)) (group_places identity g) (All-contains_itself (group_places identity g))

-- ---- a group's resource elements are those in its span that are not reserved

any_in_range : (symbol first n : ℕ) (p : Place) → list_any (same_place p) (map (place symbol) (range_with_len first n))
    ≡ (nat_eq p.symbol symbol && nat_le first p.k && nat_lt p.k (first + n))
any_in_range symbol first zero p = none (nat_eq p.symbol symbol)
  where
    none : (e : Bool) → false ≡ (e && nat_le first p.k && nat_lt p.k (first + 0))
    none false = refl
    none true = grind (arith, nat_tests)
any_in_range symbol first (suc n) p =
    ap (λ (b : Bool). same_place p (place symbol first) || b) (any_in_range symbol (first + 1) n p) ∙ more (nat_eq p.symbol symbol)
  where
    more : (e : Bool) → (e && nat_eq p.k first || (e && nat_le (first + 1) p.k && nat_lt p.k (first + 1 + n)))
        ≡ (e && nat_le first p.k && nat_lt p.k (first + suc n))
    more false = refl
    more true = grind (arith, nat_tests)

group_found : (identity : ℕ) (g : Reg) (p : Place) → list_any (same_place p) (group_places identity g) ≡ is_of_group identity g p
unfolding group_places
group_found identity g p =
    any-filter same_place same_place-true (λ q. not (is_kept identity q)) p (spanned g)
    ∙ ap (λ (b : Bool). b && not (is_kept identity p)) (any_in_range g.symbol g.first (span g.symbol) p)

group_members : (identity : ℕ) (g : Reg) (p : Place) → Contains (group_places identity g) p ↔ (is_of_group identity g p ≡ true)
group_members identity g = members_by same_place same_place-true same_place-refl (group_places identity g) (is_of_group identity g) (group_found identity g)

pub group_in_order : (identity : ℕ) (g : Reg) → is_group g ≡ true →
    AreInOrder (λ p. p.k) (group_places identity g) 4 (λ i. get_or (group_places identity g) i (place 0 0)) (is_of_group identity g)
group_in_order identity g is =
    let four = four_places identity g is in
    record {
      size = four;
      item = λ i l. slice_get-get_or (group_places identity g) i (place 0 0) (omega (arith, l, four));
      rise = λ i j l m. places_rise identity g i j is l m;
      members = group_members identity g;
    }

pub group_ends : (identity : ℕ) (g : Reg) (p : Place) → is_group g ≡ true → is_of_group identity g p ≡ true → p.k < 72
group_ends identity g p is of = (places_inside identity g p is ((group_members identity g p).1 of)).1
