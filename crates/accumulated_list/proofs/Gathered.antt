-- What a function gives of a list's items, without those for which it gives nothing.
use Rattle.std.proofs.Common.{◌≡◌, ◌⊎◌, inl, inr, ℕ, ◌+◌, ◌<◌, ◌≤◌, List, [], ◌∷◌, ◌++◌, take, get_or, Option, Some, None, length, arith, refl, ap, sym, subst, ◌∙◌}
use Rattle.std.specs.List.{All, AllPairs, Contains, filter_map, cons_option}
use Rattle.std.proofs.lemmas.Option.{none-some, same_Some}
use Rattle.std.proofs.lemmas.List.Elements.{All-weaker, All-contains_itself, filter_map-append}
use Rattle.std.proofs.lemmas.List.{take_more}
use Rattle.std.proofs.lemmas.List.Kept.{AllPairs-cons}
use Rattle.explain.proofs.Sorted.{in_none, in_cons, Contains-here, Contains-later, AllPairs-head, AllPairs-tail}

pub All-from_Contains : {A : Type 0} (P : A → Type 0) (xs : List A) → ((x : A) → Contains xs x → P x) → All P xs
All-from_Contains P xs h = All-weaker (Contains xs) P h xs (All-contains_itself xs)

module _ {A B : Type 0} (h : A → Option B) where
  pub gathered_from : (xs : List A) (y : B) → Contains (filter_map h xs) y → (x : A) × Contains xs x × (h x ≡ Some y)
  gathered_from [] y inside = absurd (in_none y inside)
  gathered_from (x ∷ xs) y inside = by (h x) refl inside (λ later. gathered_from xs y later)
    where
      by : (o : Option B) → h x ≡ o → Contains (cons_option o (filter_map h xs)) y →
          (Contains (filter_map h xs) y → (z : A) × Contains xs z × (h z ≡ Some y)) → (z : A) × Contains (x ∷ xs) z × (h z ≡ Some y)
      by None e there rest = let (z, in_rest, is) = rest there in (z, Contains-later x xs z in_rest, is)
      by (Some w) e there rest = elim (in_cons w (filter_map h xs) y there) [
        | inl same ↦ (x, Contains-here x xs, e ∙ ap Some same)
        | inr later ↦ (let (z, in_rest, is) = rest later in (z, Contains-later x xs z in_rest, is))
      ]

  pub gathered_has : (xs : List A) (x : A) (y : B) → Contains xs x → h x ≡ Some y → Contains (filter_map h xs) y
  gathered_has [] x y inside is = absurd (in_none x inside)
  gathered_has (w ∷ xs) x y inside is = by (h w) refl (in_cons w xs x inside) (λ later. gathered_has xs x y later is)
    where
      by : (o : Option B) → h w ≡ o → (w ≡ x) ⊎ Contains xs x → (Contains xs x → Contains (filter_map h xs) y) →
          Contains (cons_option o (filter_map h xs)) y
      by None e (inl same) rest = absurd (none-some y (sym e ∙ ap h same ∙ is))
      by None e (inr later) rest = rest later
      by (Some z) e (inl same) rest =
          subst (λ v. Contains (v ∷ filter_map h xs) y) (sym (same_Some z y (sym e ∙ ap h same ∙ is))) (Contains-here y (filter_map h xs))
      by (Some z) e (inr later) rest = Contains-later z (filter_map h xs) y (rest later)

  pub gathered_order : (R : A → A → Type 0) (S : B → B → Type 0) → ((x y : A) (a b : B) → R x y → h x ≡ Some a → h y ≡ Some b → S a b) →
      (xs : List A) → AllPairs R xs → AllPairs S (filter_map h xs)
  gathered_order R S step [] p = λ i j d below inside. absurd (omega (arith, inside))
  gathered_order R S step (x ∷ xs) p = by (h x) refl (gathered_order R S step xs (AllPairs-tail R x xs p))
    where
      by : (o : Option B) → h x ≡ o → AllPairs S (filter_map h xs) → AllPairs S (cons_option o (filter_map h xs))
      by None e rest = rest
      by (Some a) e rest = AllPairs-cons S a (filter_map h xs) (All-from_Contains (S a) (filter_map h xs) after) rest
        where
          after : (b : B) → Contains (filter_map h xs) b → S a b
          after b inside = let (y, there, is) = gathered_from xs b inside in step x y a b (AllPairs-head R x xs p y there) e is

  pub gathered_few : (xs : List A) → length (filter_map h xs) ≤ length xs
  gathered_few [] = omega arith
  gathered_few (x ∷ xs) = by (h x) (gathered_few xs)
    where
      by : (o : Option B) → length (filter_map h xs) ≤ length xs → length (cons_option o (filter_map h xs)) ≤ length (x ∷ xs)
      by None l = omega (arith, l)
      by (Some y) l = omega (arith, l)

  pub gathered_more : (xs : List A) (i : ℕ) (d : A) → i < length xs →
      filter_map h (take (i + 1) xs) ≡ filter_map h (take i xs) ++ cons_option (h (get_or xs i d)) []
  gathered_more xs i d l = ap (filter_map h) (take_more xs i d l) ∙ filter_map-append h (take i xs) (get_or xs i d ∷ [])
