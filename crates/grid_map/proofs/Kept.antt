-- Membership in a filtered list.
use Rattle.std.proofs.Common.{◌≤◌, ◌≡◌, Bool, true, false, ◌&&◌, ◌||◌, cond, List, [], ◌∷◌, ◌++◌, filter, map, length, refl, ap, sym, ◌∙◌, arith}
use Rattle.std.specs.List.{list_any, flat_map}
use Rattle.std.proofs.lemmas.List.Elements.{filter-append}
use Rattle.std.proofs.Math.Bool.{and-false}

-- an item is in the filtered list if it passes and is in the list
pub any-filter : {X : Type 0} (same : X → X → Bool) → ((x y : X) → same x y ≡ true → x ≡ y) → (p : X → Bool) (x : X) (xs : List X) →
    list_any (same x) (filter p xs) ≡ (list_any (same x) xs && p x)
any-filter same sound p x [] = refl
any-filter same sound p x (y ∷ ys) = cases (same x y) (p y) refl refl (any-filter same sound p x ys)
  where
    or-false : (a : Bool) → (false || a) ≡ a
    or-false a = refl

    cases : (a b : Bool) → same x y ≡ a → p y ≡ b → list_any (same x) (filter p ys) ≡ (list_any (same x) ys && p x) →
        list_any (same x) (cond (p y) (y ∷ filter p ys) (filter p ys)) ≡ ((same x y || list_any (same x) ys) && p x)
    cases true true e f rest = let here : p x ≡ true = ap p (sound x y e) ∙ f in rw (f, here, e) refl
    cases true false e f rest = let here : p x ≡ false = ap p (sound x y e) ∙ f in rw (f, rest, here) (and-false _ ∙ sym (and-false _))
    cases false true e f rest = rw f (rw (e, rest) refl)
    cases false false e f rest = rw (f, rest, e) refl

pub filter-flat_map : {X Y : Type 0} (p : Y → Bool) (f : X → List Y) (xs : List X) → filter p (flat_map f xs) ≡ flat_map (λ x. filter p (f x)) xs
filter-flat_map p f [] = refl
filter-flat_map p f (x ∷ xs) = filter-append p (f x) (flat_map f xs) ∙ ap (λ ys. filter p (f x) ++ ys) (filter-flat_map p f xs)

pub filter-map : {X Y : Type 0} (p : Y → Bool) (f : X → Y) (xs : List X) → filter p (map f xs) ≡ map f (filter (λ x. p (f x)) xs)
filter-map p f [] = refl
filter-map p f (x ∷ xs) = cases (p (f x)) refl (filter-map p f xs)
  where
    cases : (b : Bool) → p (f x) ≡ b → filter p (map f xs) ≡ map f (filter (λ x. p (f x)) xs) → filter p (map f (x ∷ xs)) ≡ map f (filter (λ x. p (f x)) (x ∷ xs))
    cases true e rest = rw e (ap (λ ys. f x ∷ ys) rest)
    cases false e rest = rw e rest

pub filter-same : {X : Type 0} (p q : X → Bool) → ((x : X) → p x ≡ q x) → (xs : List X) → filter p xs ≡ filter q xs
filter-same p q same [] = refl
filter-same p q same (x ∷ xs) = rw (same x, filter-same p q same xs) refl

pub filter-none : {X : Type 0} (p : X → Bool) → ((x : X) → p x ≡ false) → (xs : List X) → filter p xs ≡ []
filter-none p none [] = refl
filter-none p none (x ∷ xs) = rw (none x) (filter-none p none xs)

pub length-filter_within : {X : Type 0} (p : X → Bool) (xs : List X) → length (filter p xs) ≤ length xs
length-filter_within p [] = omega arith
length-filter_within p (x ∷ xs) = cases (p x) (length-filter_within p xs)
  where
    cases : (b : Bool) → length (filter p xs) ≤ length xs → length (cond b (x ∷ filter p xs) (filter p xs)) ≤ length (x ∷ xs)
    cases true before = omega (arith, before)
    cases false before = omega (arith, before)
