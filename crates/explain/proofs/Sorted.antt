-- A list in strict order is determined by its items.
use Rattle.std.proofs.Common.{◌≡◌, ◌⊎◌, inl, inr, suc, List, [], ◌∷◌, arith, refl, ap, sym, subst, ◌∙◌}
use Rattle.std.specs.List.{AllPairs, Contains}
use Rattle.std.proofs.lemmas.List.Elements.{Contains-append_cases, Contains-append_right}
use Rattle.finite.proofs.Lists.{only_one}

pub in_none : {A : Type 0} (x : A) → Contains [] x → ⊥
in_none x (i, l, e) = absurd (omega (arith, l))

pub in_cons : {A : Type 0} (y : A) (ys : List A) (x : A) → Contains (y ∷ ys) x → (y ≡ x) ⊎ Contains ys x
in_cons y ys x h = elim (Contains-append_cases (y ∷ []) ys x h) [
  | inl one ↦ inl (only_one y x one)
  | inr rest ↦ inr rest
]

pub Contains-here : {A : Type 0} (x : A) (xs : List A) → Contains (x ∷ xs) x
Contains-here x xs = (0, omega arith, refl)

pub Contains-later : {A : Type 0} (y : A) (ys : List A) (x : A) → Contains ys x → Contains (y ∷ ys) x
Contains-later y ys x h = Contains-append_right (y ∷ []) ys x h

-- the first item comes before each later one
pub AllPairs-head : {A : Type 0} (R : A → A → Type 0) (x : A) (xs : List A) → AllPairs R (x ∷ xs) → (y : A) → Contains xs y → R x y
AllPairs-head R x xs p y (k, l, e) = subst (R x) e (p 0 (suc k) y (omega arith) (omega (arith, l)))

pub AllPairs-tail : {A : Type 0} (R : A → A → Type 0) (x : A) (xs : List A) → AllPairs R (x ∷ xs) → AllPairs R xs
AllPairs-tail R x xs p i j d below inside = p (suc i) (suc j) d (omega (arith, below)) (omega (arith, inside))

-- two lists in one strict order with the same items are equal
pub one_in_order : {A : Type 0} (R : A → A → Type 0) → ((x y : A) → R x y → R y x → ⊥) → (xs ys : List A) → AllPairs R xs → AllPairs R ys →
    ((z : A) → Contains xs z → Contains ys z) → ((z : A) → Contains ys z → Contains xs z) → xs ≡ ys
one_in_order R strict [] [] p q to from = refl
one_in_order R strict [] (y ∷ ys) p q to from = absurd (in_none y (from y (Contains-here y ys)))
one_in_order R strict (x ∷ xs) [] p q to from = absurd (in_none x (to x (Contains-here x xs)))
one_in_order {A} R strict (x ∷ xs) (y ∷ ys) p q to from =
    same_rest (λ t f. one_in_order R strict xs ys (AllPairs-tail R x xs p) (AllPairs-tail R y ys q) t f)
  where
    heads : (y ≡ x) ⊎ Contains ys x → (x ≡ y) ⊎ Contains xs y → x ≡ y
    heads (inl e) other = sym e
    heads (inr later) (inl e) = e
    heads (inr later) (inr after) = absurd (strict x y (AllPairs-head R x xs p y after) (AllPairs-head R y ys q x later))

    same : x ≡ y
    same = heads (in_cons y ys x (to x (Contains-here x xs))) (in_cons x xs y (from y (Contains-here y ys)))

    irreflexive : (z : A) → R z z → ⊥
    irreflexive z r = strict z z r r

    to_rest : (z : A) → Contains xs z → (y ≡ z) ⊎ Contains ys z → Contains ys z
    to_rest z h (inl e) = absurd (irreflexive z (subst (λ w. R w z) (same ∙ e) (AllPairs-head R x xs p z h)))
    to_rest z h (inr rest) = rest

    from_rest : (z : A) → Contains ys z → (x ≡ z) ⊎ Contains xs z → Contains xs z
    from_rest z h (inl e) = absurd (irreflexive z (subst (λ w. R w z) (sym same ∙ e) (AllPairs-head R y ys q z h)))
    from_rest z h (inr rest) = rest

    same_rest : (((z : A) → Contains xs z → Contains ys z) → ((z : A) → Contains ys z → Contains xs z) → xs ≡ ys) → x ∷ xs ≡ y ∷ ys
    same_rest rest =
        let tails : xs ≡ ys = rest (λ z h. to_rest z h (in_cons y ys z (to z (Contains-later x xs z h)))) (λ z h. from_rest z h (in_cons x xs z (from z (Contains-later y ys z h)))) in
        ap (λ w. w ∷ xs) same ∙ ap (λ ws. y ∷ ws) tails
