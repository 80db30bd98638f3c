-- An identity is in the list exactly where the reasons say so.
use Rattle.std.proofs.Common.{◌≡◌, ◌⊎◌, inl, inr, ℕ, ◌%◌, Bool, true, false, cond, List, [], ◌∷◌, eqb-true, eq-eqb, refl, ap, sym, subst, ◌∙◌}
use Rattle.std.proofs.lemmas.Bool.{false≢true}
use Rattle.std.specs.Prelude.{MatchBool, nat_eq, nat_le, ◌&&◌, filter, map}
use Rattle.std.specs.List.{AllZip, Contains}
use Rattle.cs_num.specs.declared.Sample.{Sample}
use Rattle.lte_types.specs.declared.entry.Entry.{Entry}
use Rattle.lte_types.specs.declared.hit.Hit.{Hit}
use Rattle.pss_search.specs.Hits.{hits_of}
use Rattle.explain.specs.Receiver.{Receiver, has_step_before, place_by}
use Rattle.explain.specs.Entries.{is_same_cell, distance, epoch}
use Rattle.explain.proofs.Listed.{is_complete, is_one_list}
use Rattle.explain.proofs.Sorted.{in_none, in_cons, Contains-here, Contains-later}
use Rattle.finite.proofs.Lists.{only_one}
use Rattle.reasons.specs.declared.reason.Reason.{Reason}
use Rattle.reasons.specs.declared.reason.Reason.TheVariants.{Listed, NoHit, NoRoom, OtherIdentity, NoMib}
use Rattle.reasons.specs.Reason.{has_identity, has_root, listed, other_cell, no_room, HasNoMib, IsFirstFailing, AreReasons, IsReasonFor}
use Rattle.reasons.specs.Laws.{HasEntry, SaysListed, ListedIsInList, UnlistedHasNoMib}

-- ---- filters

keeps : {A : Type 0} (p : A → Bool) (xs : List A) (x : A) → Contains xs x → p x ≡ true → Contains (filter p xs) x
keeps p [] x inside passes = absurd (in_none x inside)
keeps {A} p (y ∷ ys) x inside passes = by (p y) refl (in_cons y ys x inside) (λ later. keeps p ys x later passes)
  where
    by : (b : Bool) → p y ≡ b → (y ≡ x) ⊎ Contains ys x → (Contains ys x → Contains (filter p ys) x) → Contains (cond (p y) (y ∷ filter p ys) (filter p ys)) x
    by true e (inl is) rest = rw e (subst (Contains (y ∷ filter p ys)) is (Contains-here y (filter p ys)))
    by true e (inr later) rest = rw e (Contains-later y (filter p ys) x (rest later))
    by false e (inl is) rest = absurd (false≢true (sym e ∙ ap p is ∙ passes))
    by false e (inr later) rest = rw e (rest later)

kept_from : {A : Type 0} (p : A → Bool) (xs : List A) (x : A) → Contains (filter p xs) x → Contains xs x × (p x ≡ true)
kept_from p [] x inside = absurd (in_none x inside)
kept_from {A} p (y ∷ ys) x inside = by (p y) refl inside (λ later. kept_from p ys x later)
  where
    by : (b : Bool) → p y ≡ b → Contains (cond b (y ∷ filter p ys) (filter p ys)) x → (Contains (filter p ys) x → Contains ys x × (p x ≡ true)) → Contains (y ∷ ys) x × (p x ≡ true)
    by true e h rest = elim (in_cons y (filter p ys) x h) [
      | inl is ↦ (subst (Contains (y ∷ ys)) is (Contains-here y ys), ap p (sym is) ∙ e)
      | inr later ↦ (Contains-later y ys x (rest later).0, (rest later).1)
    ]
    by false e h rest = (Contains-later y ys x (rest h).0, (rest h).1)

-- ---- reasons

abbrev is_listed : Reason → Bool
is_listed (Listed cell) = true
is_listed (NoHit place) = false
is_listed (NoRoom hit) = false
is_listed (OtherIdentity cell) = false
is_listed (NoMib cell) = false

-- what is not listed in each case is not
not_by : (room same : Bool) (M : Type 0) (x y r : Reason) → (M → is_listed r ≡ false) → is_listed x ≡ false → is_listed y ≡ false →
    MatchBool room (MatchBool same M (r ≡ x)) (r ≡ y) → is_listed r ≡ false
not_by true true M x y r none ex ey p = none p
not_by true false M x y r none ex ey p = ap is_listed p ∙ ex
not_by false same M x y r none ex ey p = ap is_listed p ∙ ey

-- no rule that fails is `listed`
not_listed : (receiver : Receiver) (recording : List Sample) (identity : ℕ) (hit : Hit) (r : Reason) → IsFirstFailing receiver recording identity hit r → is_listed r ≡ false
not_listed receiver recording identity hit r p =
    not_by (has_step_before receiver.carrier hit) (nat_eq (place_by receiver.carrier recording hit).id identity) (HasNoMib receiver recording hit r)
    (OtherIdentity (other_cell receiver.carrier recording identity hit)) (no_room receiver.carrier hit) r (λ none. ap is_listed none.is) refl refl p

none_listed : (receiver : Receiver) (recording : List Sample) (identity : ℕ) (hits : List Hit) (reasons : List Reason) (r : Reason) →
    AllZip (IsFirstFailing receiver recording identity) hits reasons → Contains reasons r → is_listed r ≡ false
none_listed receiver recording identity [] [] r all inside = absurd (in_none r inside)
none_listed receiver recording identity [] (x ∷ xs) r all inside = absurd all
none_listed receiver recording identity (hit ∷ hits) [] r all inside = absurd all
none_listed receiver recording identity (hit ∷ hits) (x ∷ xs) r all inside = elim (in_cons x xs r inside) [
  | inl is ↦ ap is_listed (sym is) ∙ not_listed receiver recording identity hit x all.0
  | inr later ↦ none_listed receiver recording identity hits xs r all.1 later
]

-- ---- entries

same_identity : (a b : Entry) → is_same_cell a b ≡ true → a.id ≡ b.id
same_identity a b same = eqb-true a.id b.id (and_left (nat_eq a.id b.id) (nat_le (distance (epoch a) (epoch b)) 9) same)
  where
    and_left : (p q : Bool) → (p && q) ≡ true → p ≡ true
    and_left true q e = refl
    and_left false q e = e

pub unlisted_has_no_mib : UnlistedHasNoMib
unlisted_has_no_mib receiver recording identity list hit entry is_list none listed named is_of =
    let (other, stands) = is_complete receiver recording list entry is_list (record { hit = hit; listed = listed; is_of = is_of }) in
    none (record { entry = other; inside = stands.inside; same = by_same stands.same ∙ is_of.id ∙ named })
  where
    by_same : {other : Entry} → (other ≡ entry) ⊎ (is_same_cell other entry ≡ true) → other.id ≡ entry.id
    by_same (inl is) = ap (λ (e : Entry). e.id) is
    by_same {other} (inr same) = same_identity other entry same

-- ---- identities

says : (receiver : Receiver) (recording : List Sample) (identity : ℕ) (kept : List Entry) (hits : List Hit) (reasons : List Reason) (entry : Entry) →
    AreReasons receiver recording identity kept hits reasons → Contains kept entry → SaysListed reasons
says receiver recording identity [] hits reasons entry are inside = absurd (in_none entry inside)
says receiver recording identity (e ∷ es) hits reasons entry are inside = record {
  cell = record { start = e.start; sfn = e.sfn; ports = e.ports };
  inside = subst (λ (all : List Reason). Contains all (listed e)) (sym are) (Contains-here (listed e) (map listed es));
}

has : (receiver : Receiver) (recording : List Sample) (identity : ℕ) (kept : List Entry) (hits : List Hit) (reasons : List Reason) →
    AreReasons receiver recording identity kept hits reasons → SaysListed reasons → (entry : Entry) × Contains kept entry
has receiver recording identity (e ∷ es) hits reasons are s = (e, Contains-here e es)
has receiver recording identity [] [] reasons are s =
    let only = only_one (NoHit are.place) (Listed s.cell) (subst (λ (all : List Reason). Contains all (Listed s.cell)) are.is s.inside) in
    absurd (false≢true (ap is_listed only))
has receiver recording identity [] (hit ∷ hits) reasons are s =
    absurd (false≢true (sym (none_listed receiver recording identity (hit ∷ hits) reasons (Listed s.cell) are s.inside)))

in_list : (receiver : Receiver) (recording : List Sample) (identity : ℕ) (reasons : List Reason) (r : IsReasonFor receiver recording identity reasons) →
    (HasEntry r.list identity → SaysListed reasons) × (SaysListed reasons → HasEntry r.list identity)
in_list receiver recording identity reasons r = (
  λ h. says receiver recording identity (filter (has_identity identity) r.list) (filter (has_root (identity % 3)) (hits_of recording)) reasons h.entry r.are
      (keeps (has_identity identity) r.list h.entry h.inside (eq-eqb h.entry.id identity h.same)),
  λ s.
      let (entry, kept) = has receiver recording identity (filter (has_identity identity) r.list) (filter (has_root (identity % 3)) (hits_of recording)) reasons r.are s in
      let (inside, same) = kept_from (has_identity identity) r.list entry kept in
      record { entry = entry; inside = inside; same = eqb-true entry.id identity same },
)

pub listed_is_in_list : ListedIsInList
listed_is_in_list receiver recording identity reasons list r is =
    subst (λ (l : List Entry). (HasEntry l identity → SaysListed reasons) × (SaysListed reasons → HasEntry l identity))
    (is_one_list receiver recording r.list list r.is_list is) (in_list receiver recording identity reasons r)
