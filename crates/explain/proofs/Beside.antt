-- How the entries of a list were read, in a parallel list.
use Rattle.std.proofs.Common.{◌≡◌, inl, inr, ℕ, ◌+◌, ◌<◌, Bool, true, false, ◌||◌, List, [], ◌∷◌, ◌++◌, Some, arith, refl, ap, ap₂, sym, subst, ◌∙◌}
use Rattle.std.specs.Prelude.{ℤ, slice_get}
use Rattle.std.specs.List.{AllZip, insert}
use Rattle.std.proofs.lemmas.Bool.{cases_lt, false≢true}
use Rattle.std.proofs.lemmas.Bool.Decides.{nat_tests}
use Rattle.std.proofs.lemmas.Option.{get_or_from_slice_get}
use Rattle.std.proofs.lemmas.List.Folds.{list_any-append}
use Rattle.finite.proofs.Zips.{all_zip_insert}
use Rattle.lte_types.specs.declared.hit.Hit.{Hit}
use Rattle.lte_types.specs.declared.mib.Mib.{Mib}
use Rattle.lte_types.specs.declared.entry.Entry.{Entry}
use Rattle.lte_types.specs.CellPlace.{Place}
use Rattle.lte_types.specs.Frames.{Frames}
use Rattle.pbch.specs.declared.master.Master.{Master}
use Rattle.explain.specs.declared.readings.Reading.{Reading}
use Rattle.explain.specs.Decoded.{Granting, Carrying}
use Rattle.explain.specs.Entries.{place_of, frames_of}
use Rattle.explain.specs.Masters.{entry_of}
use Rattle.explain.specs.Places.{is_same_place, is_met}
use Rattle.explain.specs.Readings.{IsFirstAt, IsReadingBy, AddsBeside, KeepsReadings}

-- an entry that is added with its reading
pub keeps : (Is : Entry → Reading → Type 0) (entry : Entry) (reading : Reading) (old new : List Entry) (before after : List Reading) →
    AddsBeside entry reading old new before after → Is entry reading → KeepsReadings Is old new before after
keeps Is entry reading old new before after (inl kept) is all =
    subst (λ xs. AllZip Is xs after) (sym kept.entries) (subst (λ ys. AllZip Is old ys) (sym kept.readings) all)
keeps Is entry reading old new before after (inr put) is all =
    subst (λ xs. AllZip Is xs after) (sym put.entries) (subst (λ ys. AllZip Is (insert old put.at entry) ys) (sym put.readings) (all_zip_insert Is put.at old before entry reading put.within is all))

-- the reading of the entry for a MIB, with the sums, the grant and the block found with it
module _ (summed : Place → Frames → List (List ℤ)) (IsGrant : Granting) (IsBlock : Carrying) (place_by : Hit → Place) (hits : List Hit) where
  pub reads_so : (place : Place) (frames : Frames) (master : Master) (entry : Entry) (reading : Reading) → entry ≡ entry_of place frames master entry.sib1 →
      IsFirstAt place_by hits place reading.hit → reading.sums ≡ summed place frames → IsGrant place entry.sfn master.mib entry.sib1 reading.granted →
      IsBlock place entry.sfn master.mib entry.sib1 reading.block.items → IsReadingBy summed IsGrant IsBlock place_by hits entry reading
  reads_so place frames master entry reading whole first decoded granted carried = record {
    hit = subst (λ p. IsFirstAt place_by hits p reading.hit) (sym here) first;
    sums = decoded ∙ sym (ap₂ summed here (ap frames_of whole));
    granted = subst (λ (p : Place). IsGrant p entry.sfn entry.mib entry.sib1 reading.granted) (sym here)
        (subst (λ (mib : Mib). IsGrant place entry.sfn mib entry.sib1 reading.granted) (sym (ap (λ (e : Entry). e.mib) whole)) granted);
    block = subst (λ (p : Place). IsBlock p entry.sfn entry.mib entry.sib1 reading.block.items) (sym here)
        (subst (λ (mib : Mib). IsBlock place entry.sfn mib entry.sib1 reading.block.items) (sym (ap (λ (e : Entry). e.mib) whole)) carried);
  }
    where
      here : place_of entry ≡ place
      here = ap place_of whole

same_itself : (place : Place) → is_same_place place place ≡ true
same_itself place = grind (arith, nat_tests)

first_true : (a b : Bool) → a ≡ true → (a || b) ≡ true
first_true a b e = rw e refl

second_true : (a b c : Bool) → b ≡ true → (a || (b || c)) ≡ true
second_true true b c e = refl
second_true false b c e = rw e refl

-- the places of the first k hits were found
abbrev pub AllMet : (Hit → Place) → List Hit → ℕ → List Place → Type 0
AllMet place_by hits k places = (h : ℕ) (other : Hit) → h < k → slice_get hits h ≡ Some other → is_met places (place_by other) ≡ true

module _ (place_by : Hit → Place) (hits : List Hit) (k : ℕ) (hit : Hit) (is : slice_get hits k ≡ Some hit) (places : List Place) (met : AllMet place_by hits k places) where
  -- if the next hit's place is new, it is the first that gives it
  pub first_at : is_met places (place_by hit) ≡ false → IsFirstAt place_by hits (place_by hit) hit
  first_at new = record {
    at = k;
    is = is;
    decodes = refl;
    first = λ h other less at same. false≢true (sym new ∙ subst (λ (p : Place). is_met places p ≡ true) same (met h other less at));
  }

  -- after the next hit, the places of all hits up to it were found
  pub all_more : (after : List Place) → (is_met places (place_by hit) ≡ true → after ≡ places) →
      (is_met places (place_by hit) ≡ false → after ≡ places ++ place_by hit ∷ []) → AllMet place_by hits (k + 1) after
  all_more after same adds h other less at = settle (is_met places (place_by hit)) refl
    where
      last : h ≡ k → other ≡ hit
      last e = sym (get_or_from_slice_get hits k other other (subst (λ n. slice_get hits n ≡ Some other) e at)) ∙ get_or_from_slice_get hits k hit other is

      before : is_met places (place_by hit) ≡ true → is_met places (place_by other) ≡ true
      before now = elim (cases_lt h k) [
        | inl less ↦ met h other less at
        | inr above ↦ subst (λ (o : Hit). is_met places (place_by o) ≡ true) (sym (last (omega (arith, less, above)))) now
      ]

      pushed : is_met (places ++ place_by hit ∷ []) (place_by other) ≡ true
      pushed = elim (cases_lt h k) [
        | inl less ↦ list_any-append (λ p. is_same_place p (place_by other)) places (place_by hit ∷ []) ∙ first_true _ _ (met h other less at)
        | inr above ↦ subst (λ (o : Hit). is_met (places ++ place_by hit ∷ []) (place_by o) ≡ true) (sym (last (omega (arith, less, above))))
            (list_any-append (λ p. is_same_place p (place_by hit)) places (place_by hit ∷ []) ∙ second_true _ _ _ (same_itself (place_by hit)))
      ]

      settle : (b : Bool) → is_met places (place_by hit) ≡ b → is_met after (place_by other) ≡ true
      settle true e = subst (λ ps. is_met ps (place_by other) ≡ true) (sym (same e)) (before e)
      settle false e = subst (λ ps. is_met ps (place_by other) ≡ true) (sym (adds e)) pushed
