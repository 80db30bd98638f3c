-- Output for the items of two lists, pair by pair.
use Rattle.std.proofs.Common.{◌≡◌, ◌∙◌, ◌⊎◌, inl, inr, List, [], ◌∷◌, ◌++◌, map, refl, ap, sym, append_assoc, append-nil}
use Rattle.std.specs.List.{flat_map, zip}

abbrev pub put_for : {A B C : Type 0} → (A → B → List C) → List A → List B → List C
put_for put xs ys = flat_map (λ p. put p.0 p.1) (zip xs ys)

-- after the first two items, the output for the others remains
pub put_more : {A B C : Type 0} (put : A → B → List C) (xs : List A) (ys : List B) (x : A) (y : B) (others : List A) (rest : List B) (before more now all : List C) →
    xs ≡ x ∷ others → ys ≡ y ∷ rest → before ++ put_for put xs ys ≡ all → now ≡ before ++ more → more ≡ put x y → now ++ put_for put others rest ≡ all
put_more put xs ys x y others rest before more now all first second so_far is added =
    ap (λ l. l ++ put_for put others rest) (is ∙ ap (λ l. before ++ l) added)
    ∙ append_assoc before (put x y) (put_for put others rest)
    ∙ sym (ap (λ l. before ++ put_for put l ys) first ∙ ap (λ l. before ++ put_for put (x ∷ others) l) second)
    ∙ so_far

-- at the end of either list no output remains
pub put_last : {A B C : Type 0} (put : A → B → List C) (xs : List A) (ys : List B) (before all : List C) → (xs ≡ []) ⊎ (ys ≡ []) → before ++ put_for put xs ys ≡ all → before ≡ all
put_last put xs ys before all (inl none) so_far = sym (append-nil before) ∙ sym (ap (λ l. before ++ put_for put l ys) none) ∙ so_far
put_last put [] ys before all (inr none) so_far = sym (append-nil before) ∙ so_far
put_last put (x ∷ xs) ys before all (inr none) so_far = sym (append-nil before) ∙ sym (ap (λ l. before ++ put_for put (x ∷ xs) l) none) ∙ so_far

-- if the second list is computed from the first, the output depends on the first only
pub put_by : {A B C : Type 0} (put : A → B → List C) (of : A → B) (xs : List A) → put_for put xs (map of xs) ≡ flat_map (λ x. put x (of x)) xs
put_by put of [] = refl
put_by put of (x ∷ xs) = ap (λ l. put x (of x) ++ l) (put_by put of xs)
