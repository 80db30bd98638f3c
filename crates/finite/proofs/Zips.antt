-- Two lists compared item by item.
use Rattle.std.proofs.Common.{◌≡◌, ℕ, zero, suc, ◌<◌, ◌≤◌, List, [], ◌∷◌, length, get_or, arith, sym, subst}
use Rattle.std.specs.List.{AllZip, insert}

-- a relation between items survives if both lists get related items at the same index
pub all_zip_insert : {A B : Type 0} (R : A → B → Type 0) (n : ℕ) (xs : List A) (ys : List B) (x : A) (y : B) → n ≤ length xs → R x y →
    AllZip R xs ys → AllZip R (insert xs n x) (insert ys n y)
all_zip_insert R zero [] [] x y l r all = (r, all)
all_zip_insert R zero [] (b ∷ ys) x y l r all = absurd all
all_zip_insert R zero (a ∷ xs) [] x y l r all = absurd all
all_zip_insert R zero (a ∷ xs) (b ∷ ys) x y l r all = (r, all)
all_zip_insert R (suc n) [] ys x y l r all = absurd (omega (arith, l))
all_zip_insert R (suc n) (a ∷ xs) [] x y l r all = absurd all
all_zip_insert R (suc n) (a ∷ xs) (b ∷ ys) x y l r all = (all.0, all_zip_insert R n xs ys x y (omega (arith, l)) r all.1)

-- ---- items at one index

zip_at : {A B : Type 0} (R : A → B → Type 0) (xs : List A) (ys : List B) (i : ℕ) (d : A) (e : B) → AllZip R xs ys → i < length xs → R (get_or xs i d) (get_or ys i e)
zip_at R [] ys i d e all inside = absurd (omega (arith, inside))
zip_at R (x ∷ xs) [] i d e all inside = absurd all
zip_at R (x ∷ xs) (y ∷ ys) zero d e all inside = all.0
zip_at R (x ∷ xs) (y ∷ ys) (suc i) d e all inside = zip_at R xs ys i d e all.1 (omega (arith, inside))

-- a relation between the lists relates the items at one index
pub zip_read : {A B : Type 0} (R : A → B → Type 0) (xs : List A) (ys : List B) (i : ℕ) (x : A) (y : B) → AllZip R xs ys → i < length xs →
    x ≡ get_or xs i x → y ≡ get_or ys i y → R x y
zip_read R xs ys i x y all inside first second =
    subst (λ z. R z y) (sym first) (subst (λ z. R (get_or xs i x) z) (sym second) (zip_at R xs ys i x y all inside))
