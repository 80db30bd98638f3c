-- The content of a recording's list.
use Rattle.std.proofs.Common.{◌≡◌, ◌⊎◌, inl, inr, ℕ, ◌<◌, ◌≤◌, false, List, [], ◌∷◌, ◌++◌, length, get_or, arith, refl, ap, sym, subst, ◌∙◌, append-nil}
use Rattle.std.specs.List.{flat_map, AllZip, AllPairs, Contains}
use Rattle.std.proofs.lemmas.Bool.{cases_lt}
use Rattle.std.proofs.lemmas.List.{get_or_default}
use Rattle.std.proofs.lemmas.List.Elements.{Contains-append_left, Contains-append_right, Contains-append_cases, Contains-get_or}
use Rattle.std.proofs.lemmas.List.Sorted.{IsPermutation-sym, Contains-permutation}
use Rattle.std.proofs.lemmas.Grind.{flat_map-append}
use Rattle.lte_types.specs.declared.hit.Hit.{Hit}
use Rattle.lte_types.specs.declared.entry.Entry.{Entry}
use Rattle.explain.specs.Entries.{place_of, is_same_cell, kept, IsBefore, IsEntryFor, AreEntries, IsListOf, IsListOfHits, AddsHit}
use Rattle.explain.specs.Laws.{HaveOneList, IsOneList, IsEntryOfSome, IsSoundOf, IsSound, IsCompleteOf, IsComplete, AreApart, IsApartOf, IsApart, IsNeverLong}
use Rattle.explain.specs.Receiver.{hits_by}
use Rattle.explain.specs.System.{IsSystemFor}
use Rattle.explain.proofs.Information.{system_never_long}
use Rattle.explain.proofs.Sorted.{in_none, in_cons, Contains-here, Contains-later, one_in_order}
use Rattle.explain.proofs.Kept.{same_cell_turned, same_place_same_cell, kept_only, kept_stands, kept_apart, before_after, adds_again, stands_in}

abbrev pub joined : List (List Entry) → List Entry
joined groups = flat_map (λ entries. entries) groups

-- ---- entries of hits, where `IsOf` says which entries a hit has

of_some : (IsOf : Hit → Entry → Type 0) (hits : List Hit) (groups : List (List Entry)) (entry : Entry) →
    AllZip (λ hit. AreEntries (IsOf hit)) hits groups → Contains (joined groups) entry → IsEntryOfSome IsOf hits entry
of_some IsOf [] [] entry each h = absurd (in_none entry h)
of_some IsOf [] (g ∷ gs) entry each h = absurd each
of_some IsOf (hit ∷ hits) [] entry each h = absurd each
of_some IsOf (hit ∷ hits) (g ∷ gs) entry each h = elim (Contains-append_cases g (joined gs) entry h) [
  | inl own ↦ record { hit = hit; listed = Contains-here hit hits; is_of = (each.0.given entry).0 own }
  | inr rest ↦ let s = of_some IsOf hits gs entry each.1 rest in record { hit = s.hit; listed = Contains-later hit hits s.hit s.listed; is_of = s.is_of }
]

in_groups : (IsOf : Hit → Entry → Type 0) (hits : List Hit) (groups : List (List Entry)) (entry : Entry) (hit : Hit) →
    AllZip (λ hit. AreEntries (IsOf hit)) hits groups → Contains hits hit → IsOf hit entry → Contains (joined groups) entry
in_groups IsOf [] [] entry hit each listed is_of = absurd (in_none hit listed)
in_groups IsOf [] (g ∷ gs) entry hit each listed is_of = absurd each
in_groups IsOf (h ∷ hits) [] entry hit each listed is_of = absurd each
in_groups IsOf (h ∷ hits) (g ∷ gs) entry hit each listed is_of = elim (in_cons h hits hit listed) [
  | inl is ↦ Contains-append_left g (joined gs) entry ((each.0.given entry).1 (subst (λ x. IsOf x entry) (sym is) is_of))
  | inr later ↦ Contains-append_right g (joined gs) entry (in_groups IsOf hits gs entry hit each.1 later is_of)
]

-- ---- laws

pub sound_of : (IsOf : Hit → Entry → Type 0) (hits : List Hit) → IsSoundOf IsOf hits
sound_of IsOf hits list entry explained h =
    of_some IsOf hits explained.groups entry explained.each
    (kept_only (joined explained.groups) entry (Contains-permutation list (kept (joined explained.groups)) entry (IsPermutation-sym _ _ explained.listed.same) h))

pub is_sound : IsSound
is_sound receiver recording = sound_of (IsEntryFor receiver recording) (hits_by receiver.carrier recording)

-- no entry in a recording's list has `LongPrefix` as its reason
pub is_never_long : IsNeverLong
is_never_long receiver values recording list entry is explained inside long =
    let sound = is_sound receiver recording list entry explained inside in
    system_never_long receiver values recording (place_of entry) entry.sfn entry.ports entry.mib is
    (subst (IsSystemFor receiver recording (place_of entry) entry.sfn entry.ports entry.mib) long sound.is_of.sib1)

pub complete_of : (IsOf : Hit → Entry → Type 0) (hits : List Hit) → IsCompleteOf IsOf hits
complete_of IsOf hits list entry explained is =
    let inside = in_groups IsOf hits explained.groups entry is.hit explained.each is.listed is.is_of in
    let (other, s) = kept_stands (joined explained.groups) entry inside in
    (other, record { inside = Contains-permutation (kept (joined explained.groups)) list other explained.listed.same s.inside; same = s.same })

pub is_complete : IsComplete
is_complete receiver recording = complete_of (IsEntryFor receiver recording) (hits_by receiver.carrier recording)

-- the list of a hit's entries is unique
one_group : (IsOf : Hit → Entry → Type 0) (hit : Hit) (first second : List Entry) → AreEntries (IsOf hit) first → AreEntries (IsOf hit) second → first ≡ second
one_group IsOf hit first second a b =
    one_in_order (λ (x y : Entry). x.phase < y.phase) (λ x y p q. omega (arith, p, q)) first second a.by_phase b.by_phase
    (λ z h. (b.given z).1 ((a.given z).0 h)) (λ z h. (a.given z).1 ((b.given z).0 h))

-- if each hit has one list of entries, hits have one list of such lists
abbrev pub HasOneGroup : (Hit → List Entry → Type 0) → Type 0
HasOneGroup AreOf = (hit : Hit) (first second : List Entry) → AreOf hit first → AreOf hit second → first ≡ second

one_grouping : (AreOf : Hit → List Entry → Type 0) → HasOneGroup AreOf → (hits : List Hit) (first second : List (List Entry)) →
    AllZip AreOf hits first → AllZip AreOf hits second → first ≡ second
one_grouping AreOf one [] [] [] a b = refl
one_grouping AreOf one [] [] (g ∷ gs) a b = absurd b
one_grouping AreOf one [] (f ∷ fs) second a b = absurd a
one_grouping AreOf one (hit ∷ hits) [] second a b = absurd a
one_grouping AreOf one (hit ∷ hits) (f ∷ fs) [] a b = absurd b
one_grouping AreOf one (hit ∷ hits) (f ∷ fs) (g ∷ gs) a b =
    ap (λ x. x ∷ fs) (one hit f g a.0 b.0) ∙ ap (λ xs. g ∷ xs) (one_grouping AreOf one hits fs gs a.1 b.1)

one_order : (entries first second : List Entry) → IsListOf entries first → IsListOf entries second → first ≡ second
one_order entries first second a b =
    one_in_order IsBefore before_after first second a.in_order b.in_order
    (λ z h. Contains-permutation (kept entries) second z b.same (Contains-permutation first (kept entries) z (IsPermutation-sym _ _ a.same) h))
    (λ z h. Contains-permutation (kept entries) first z a.same (Contains-permutation second (kept entries) z (IsPermutation-sym _ _ b.same) h))

-- if each hit has one list of entries, hits have one list
pub one_list : (AreOf : Hit → List Entry → Type 0) → HasOneGroup AreOf → (hits : List Hit) (first second : List Entry) →
    IsListOfHits AreOf hits first → IsListOfHits AreOf hits second → first ≡ second
one_list AreOf one hits first second a b =
    let groups = one_grouping AreOf one hits a.groups b.groups a.each b.each in
    one_order (joined b.groups) first second (subst (λ g. IsListOf (joined g) first) groups a.listed) b.listed

pub one_list_of : (IsOf : Hit → Entry → Type 0) (hits : List Hit) → HaveOneList IsOf hits
one_list_of IsOf = one_list (λ hit. AreEntries (IsOf hit)) (one_group IsOf)

pub is_one_list : IsOneList
is_one_list receiver recording = one_list_of (IsEntryFor receiver recording) (hits_by receiver.carrier recording)

-- two entries at different indices of a list in which no two belong to one cell
places_apart : (entries : List Entry) (x y : Entry) (i j : ℕ) → AllPairs (λ a b. is_same_cell a b ≡ false) entries → i < length entries → j < length entries →
    get_or entries i x ≡ x → get_or entries j y ≡ y → (i ≡ j → ⊥) → is_same_cell x y ≡ false
places_apart entries x y i j apart a b ex ey differ = place (cases_lt i j) (cases_lt j i)
  where
    at_x : get_or entries i y ≡ x
    at_x = get_or_default entries i y x a ∙ ex

    at_y : get_or entries j x ≡ y
    at_y = get_or_default entries j x y b ∙ ey

    place : (i < j) ⊎ (j ≤ i) → (j < i) ⊎ (i ≤ j) → is_same_cell x y ≡ false
    place (inl below) other = subst (λ z. is_same_cell x z ≡ false) at_y (subst (λ z. is_same_cell z (get_or entries j x) ≡ false) ex (apart i j x below b))
    place (inr low) (inl below) = same_cell_turned x y ∙ subst (λ z. is_same_cell y z ≡ false) at_x (subst (λ z. is_same_cell z (get_or entries i y) ≡ false) ey (apart j i y below a))
    place (inr low) (inr high) = absurd (differ (omega (arith, low, high)))

-- two entries at one index are equal, so that neither comes before the other
one_place : (entries : List Entry) (x y : Entry) (m n : ℕ) → m ≡ n → get_or entries m x ≡ x → get_or entries n y ≡ y → m < length entries → IsBefore x y → ⊥
one_place entries x y m n e ex ey inside before =
    let same : x ≡ y = sym ex ∙ get_or_default entries m x y inside ∙ ap (λ k. get_or entries k y) e ∙ ey in
    before_after x x (subst (IsBefore x) (sym same) before) (subst (IsBefore x) (sym same) before)

-- no two entries in the list of hits belong to one cell, whatever entries each hit has
pub list_is_apart : (AreOf : Hit → List Entry → Type 0) (hits : List Hit) (list : List Entry) → IsListOfHits AreOf hits list → AllPairs AreApart list
list_is_apart AreOf hits list explained i j d below inside =
    let entries = kept (joined explained.groups) in
    let x = get_or list i d in
    let y = get_or list j d in
    let back = IsPermutation-sym entries list explained.listed.same in
    let (m, a, ex) = Contains-permutation list entries x back (Contains-get_or list i d (omega (arith, below, inside))) in
    let (n, b, ey) = Contains-permutation list entries y back (Contains-get_or list j d inside) in
    let before : IsBefore x y = explained.listed.in_order i j d below inside in
    let differ : m ≡ n → ⊥ = λ e. one_place entries x y m n e ex ey a before in
    let other = places_apart entries x y m n (kept_apart (joined explained.groups)) a b ex ey differ in
    record {
      other_cell = λ same. absurd (cc (same, other));
      differ = λ id start sfn. let same = same_place_same_cell x y id start sfn in absurd (cc (same, other));
    }

pub apart_of : (IsOf : Hit → Entry → Type 0) (hits : List Hit) → IsApartOf IsOf hits
apart_of IsOf = list_is_apart (λ hit. AreEntries (IsOf hit))

pub is_apart : IsApart
is_apart receiver recording = apart_of (IsEntryFor receiver recording) (hits_by receiver.carrier recording)

-- ---- hit after hit

pub AllZip-more : {A B : Type 0} (R : A → B → Type 0) (xs : List A) (ys : List B) (x : A) (y : B) → AllZip R xs ys → R x y → AllZip R (xs ++ x ∷ []) (ys ++ y ∷ [])
AllZip-more R [] [] x y h r = (r, tt)
AllZip-more R [] (b ∷ ys) x y h r = absurd h
AllZip-more R (a ∷ xs) [] x y h r = absurd h
AllZip-more R (a ∷ xs) (b ∷ ys) x y h r = (h.0, AllZip-more R xs ys x y h.1 r)

-- lists that a relation with one value for each item pairs with the same list are equal
pub each_once : {A B : Type 0} (R : A → B → Type 0) → ((x : A) (a b : B) → R x a → R x b → a ≡ b) → (xs : List A) (first second : List B) → AllZip R xs first → AllZip R xs second → first ≡ second
each_once R once [] [] [] a b = refl
each_once R once [] [] (y ∷ ys) a b = absurd b
each_once R once [] (x ∷ xs) second a b = absurd a
each_once R once (entry ∷ entries) [] second a b = absurd a
each_once R once (entry ∷ entries) (x ∷ xs) [] a b = absurd b
each_once R once (entry ∷ entries) (x ∷ xs) (y ∷ ys) a b =
    ap (λ e. e ∷ xs) (once entry x y a.0 b.0) ∙ ap (λ es. y ∷ es) (each_once R once entries xs ys a.1 b.1)

pub of_one_more : (AreOf : Hit → List Entry → Type 0) (hits : List Hit) (hit : Hit) (old new : List Entry) →
    IsListOfHits AreOf hits old → AddsHit AreOf hit old new → IsListOfHits AreOf (hits ++ hit ∷ []) new
of_one_more AreOf hits hit old new before adds =
    let all : joined (before.groups ++ adds.entries ∷ []) ≡ joined before.groups ++ adds.entries =
    flat_map-append (λ entries. entries) before.groups (adds.entries ∷ []) ∙ ap (λ e. joined before.groups ++ e) (append-nil adds.entries) in
    record {
      groups = before.groups ++ adds.entries ∷ [];
      each = AllZip-more AreOf hits before.groups hit adds.entries before.each adds.are;
      listed = subst (λ entries. IsListOf entries new) (sym all) (adds.adds (joined before.groups) before.listed);
    }

-- each hit has one of the groups, whose entries are among the joined ones
group_of : (AreOf : Hit → List Entry → Type 0) (hits : List Hit) (groups : List (List Entry)) (hit : Hit) → AllZip AreOf hits groups → Contains hits hit →
    (group : List Entry) × AreOf hit group × ((entry : Entry) → Contains group entry → Contains (joined groups) entry)
group_of AreOf [] [] hit each listed = absurd (in_none hit listed)
group_of AreOf [] (g ∷ gs) hit each listed = absurd each
group_of AreOf (h ∷ hits) [] hit each listed = absurd each
group_of AreOf (h ∷ hits) (g ∷ gs) hit each listed = elim (in_cons h hits hit listed) [
  | inl is ↦ (g, subst (λ x. AreOf x g) is each.0, λ entry own. Contains-append_left g (joined gs) entry own)
  | inr later ↦
      let (group, are, inside) = group_of AreOf hits gs hit each.1 later in
      (group, are, λ entry own. Contains-append_right g (joined gs) entry (inside entry own))
]

-- a hit that occurs again adds nothing to the list
pub adds_again_of : (AreOf : Hit → List Entry → Type 0) (hits : List Hit) (list : List Entry) (hit : Hit) → IsListOfHits AreOf hits list → Contains hits hit → AddsHit AreOf hit list list
adds_again_of AreOf hits list hit explained listed =
    let (group, are, inside) = group_of AreOf hits explained.groups hit explained.each listed in
    record {
      entries = group;
      are = are;
      adds = adds_again group list (λ entry own. stands_in (joined explained.groups) list entry explained.listed (inside entry own));
    }
