-- Hits whose place was found before.
use Rattle.std.proofs.Common.{◌≡◌, inl, inr, ℕ, Bool, true, false, ◌&&◌, nat_eq, List, [], ◌∷◌, ◌++◌, arith, refl, ap, sym, subst, ◌∙◌}
use Rattle.std.specs.List.{Contains}
use Rattle.std.proofs.lemmas.Bool.Decides.{nat_tests}
use Rattle.std.proofs.lemmas.List.Elements.{Contains-append_left, Contains-push, Contains-push_cases}
use Rattle.std.proofs.lemmas.List.Folds.{Any-from_list_any}
use Rattle.cs_num.specs.declared.Sample.{Sample}
use Rattle.lte_types.specs.declared.hit.Hit.{Hit}
use Rattle.lte_types.specs.declared.entry.Entry.{Entry}
use Rattle.lte_types.specs.CellPlace.{Place}
use Rattle.explain.specs.Receiver.{Receiver, place_by}
use Rattle.explain.specs.System.{IsSystemFor}
use Rattle.explain.specs.Entries.{IsMasterFor, IsEntryAt, AreEntries, AreEntriesFor, IsListOfHits, AddsHit}
use Rattle.explain.specs.Places.{is_same_place, is_met}
use Rattle.explain.proofs.Listed.{of_one_more, adds_again_of}

-- ---- places

both_same : (m n x y : ℕ) → (nat_eq m n && nat_eq x y) ≡ true → (m ≡ n) × (x ≡ y)
both_same m n x y e = (grind (arith, nat_tests, e), grind (arith, nat_tests, e))

same_place : (a b : Place) → is_same_place a b ≡ true → a ≡ b
same_place a b e =
    let (id, start) = both_same a.id b.id a.start b.start e in
    ap (λ x. record a { id = x }) id ∙ ap (λ x. record b { start = x }) start

met_inside : (places : List Place) (place : Place) → is_met places place ≡ true → Contains places place
met_inside places place e =
    let (k, met, l, is, same) = Any-from_list_any (λ met. is_same_place met place) places e in
    subst (Contains places) (same_place met place same) (k, l, is)

-- each place is the place of one of the hits
abbrev pub AreMet : (Hit → Place) → List Hit → List Place → Type 0
AreMet place_of hits places = (place : Place) → Contains places place → (hit : Hit) × Contains hits hit × (place_of hit ≡ place)

-- ---- hit after hit

-- for a receiver
module _ (receiver : Receiver) (recording : List Sample) where
  abbrev pub AreOf : Hit → List Entry → Type 0
  AreOf = AreEntriesFor receiver recording

  abbrev place_of : Hit → Place
  place_of = place_by receiver.carrier recording

  -- a hit with the place of an earlier one adds nothing to their list
  adds_met : (hits : List Hit) (list : List Entry) (met hit : Hit) → IsListOfHits AreOf hits list →
      Contains hits met → place_of met ≡ place_of hit → AddsHit AreOf hit list list
  adds_met hits list met hit listed inside same =
      let again = adds_again_of AreOf hits list met listed inside in
      record {
        entries = again.entries;
        are = subst (λ (p : Place). AreEntries (IsEntryAt (IsMasterFor receiver recording) (IsSystemFor receiver recording) recording p) again.entries) same again.are;
        adds = again.adds;
      }

  module _ (hits : List Hit) (hit : Hit) (places : List Place) (met : AreMet place_of hits places) where
    pub listed_more : (old new : List Entry) → IsListOfHits AreOf hits old →
        (is_met places (place_of hit) ≡ true → new ≡ old) → (is_met places (place_of hit) ≡ false → AddsHit AreOf hit old new) →
        IsListOfHits AreOf (hits ++ hit ∷ []) new
    listed_more old new listed again adds = of_one_more AreOf hits hit old new listed (settle (is_met places (place_of hit)) refl)
      where
        settle : (b : Bool) → is_met places (place_of hit) ≡ b → AddsHit AreOf hit old new
        settle true e =
            let (before, inside, same) = met (place_of hit) (met_inside places (place_of hit) e) in
            subst (AddsHit AreOf hit old) (sym (again e)) (adds_met hits old before hit listed inside same)
        settle false e = adds e

    met_before : AreMet place_of (hits ++ hit ∷ []) places
    met_before place h = let (before, inside, same) = met place h in (before, Contains-append_left hits (hit ∷ []) before inside, same)

    pub met_more : (new : List Place) → (is_met places (place_of hit) ≡ true → new ≡ places) →
        (is_met places (place_of hit) ≡ false → new ≡ places ++ place_of hit ∷ []) → AreMet place_of (hits ++ hit ∷ []) new
    met_more new same adds = settle (is_met places (place_of hit)) refl
      where
        pushed : AreMet place_of (hits ++ hit ∷ []) (places ++ place_of hit ∷ [])
        pushed place h = elim (Contains-push_cases places (place_of hit) place h) [
          | inl before ↦ met_before place before
          | inr is ↦ (hit, Contains-push hits hit, is)
        ]

        settle : (b : Bool) → is_met places (place_of hit) ≡ b → AreMet place_of (hits ++ hit ∷ []) new
        settle true e = subst (AreMet place_of (hits ++ hit ∷ [])) (sym (same e)) met_before
        settle false e = subst (AreMet place_of (hits ++ hit ∷ [])) (sym (adds e)) pushed
