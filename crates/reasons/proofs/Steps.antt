-- The steps of the loops over entries and hits, and what they leave.
use Rattle.std.proofs.Common.{◌≡◌, ℕ, ◌+◌, ◌*◌, ◌<◌, ℤ, Bool, true, false, cond, List, [], ◌∷◌, ◌++◌, length, get_or, take, map, ap, sym, subst, ◌∙◌, append-nil}
use Rattle.std.proofs.lemmas.List.{take_more, map-append}
use Rattle.std.proofs.lemmas.List.Elements.{filter-append}
use Rattle.std.specs.Prelude.{filter}
use Rattle.std.specs.List.{AllZip, flat_map}
use Rattle.cs_num.specs.declared.Sample.{Sample}
use Rattle.lte_types.specs.declared.entry.Entry.{Entry}
use Rattle.lte_types.specs.CellPlace.{Place}
use Rattle.lte_types.specs.Frames.{frames_from}
use Rattle.pbch.specs.Values.{summed_values}
use Rattle.explain.specs.Receiver.{Receiver, sums_by}
use Rattle.explain.proofs.Listed.{AllZip-more}
use Rattle.reasons.specs.Reason.{has_identity, listed}

-- the first items with the next
pub one_more : {A : Type 0} (xs : List A) (i : ℕ) (x : A) → i < length xs → x ≡ get_or xs i x → take (i + 1) xs ≡ take i xs ++ x ∷ []
one_more xs i x inside is = take_more xs i x inside ∙ ap (λ e. take i xs ++ e ∷ []) (sym is)

pub more_listed : (identity : ℕ) (entries : List Entry) (entry : Entry) →
    map listed (filter (has_identity identity) entries) ++ map listed (filter (has_identity identity) (entry ∷ [])) ≡ map listed (filter (has_identity identity) (entries ++ entry ∷ []))
more_listed identity entries entry =
    sym (map-append listed (filter (has_identity identity) entries) (filter (has_identity identity) (entry ∷ [])))
    ∙ ap (map listed) (sym (filter-append (has_identity identity) entries (entry ∷ [])))

-- a hit of the root has a rule, and another hit has none
pub of_root : {A B : Type 0} (p : A → Bool) (R : A → B → Type 0) (xs : List A) (ys : List B) (x : A) (y : B) → p x ≡ true → R x y →
    AllZip R (filter p xs) ys → AllZip R (filter p (xs ++ x ∷ [])) (ys ++ y ∷ [])
of_root p R xs ys x y e r all =
    let one : filter p (x ∷ []) ≡ x ∷ [] = ap (λ (b : Bool). cond b (x ∷ []) []) e in
    subst (λ kept. AllZip R kept (ys ++ y ∷ [])) (sym (filter-append p xs (x ∷ []) ∙ ap (λ k. filter p xs ++ k) one)) (AllZip-more R (filter p xs) ys x y all r)

pub of_other : {A B : Type 0} (p : A → Bool) (R : A → B → Type 0) (xs : List A) (ys : List B) (x : A) → p x ≡ false →
    AllZip R (filter p xs) ys → AllZip R (filter p (xs ++ x ∷ [])) ys
of_other p R xs ys x e all =
    let none : filter p (x ∷ []) ≡ [] = ap (λ (b : Bool). cond b (x ∷ []) []) e in
    subst (λ kept. AllZip R kept ys) (sym (filter-append p xs (x ∷ []) ∙ ap (λ k. filter p xs ++ k) none ∙ append-nil (filter p xs))) all

-- the sums of the first frame alone
pub one_frame : (receiver : Receiver) (recording : List Sample) (place : Place) (frame : List ℤ) (id size phase : ℕ) → id ≡ place.id → size ≡ receiver.count →
    frame ≡ receiver.broadcast recording place 0 →
    summed_values id (size * phase) (flat_map (λ values. values) (frame ∷ [])) ≡ sums_by receiver recording place (frames_from 1 0 phase)
one_frame receiver recording place frame id size phase named counted received =
    ap (λ (n : ℕ). summed_values n (size * phase) (flat_map (λ values. values) (frame ∷ []))) named
    ∙ ap (λ (n : ℕ). summed_values place.id (n * phase) (flat_map (λ values. values) (frame ∷ []))) counted
    ∙ ap (λ (values : List ℤ). summed_values place.id (receiver.count * phase) (flat_map (λ values. values) (values ∷ []))) received
