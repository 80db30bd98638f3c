-- A property of all values holds for the largest.
use Rattle.std.proofs.Common.{◌≡◌, suc, Bool, true, false, List, [], ◌∷◌, fold, Some, arith, subst}
use Rattle.std.specs.Prelude.{All, if◌then◌else◌}
use Rattle.frequency_offset.specs.declared.fraction.Fraction.{Fraction}
use Rattle.frequency_offset.specs.Fractions.{is_less, greater, greatest}

greater_has : {A : Type 0} (P : A → Type 0) (f : A → Fraction) (a b : A) → P a → P b → P (greater f a b)
greater_has P f a b p q = settle (is_less (f a) (f b))
  where
    settle : (less : Bool) → P (if less then b else a)
    settle true = q
    settle false = p

pub All_rest : {A : Type 0} (P : A → Type 0) (x : A) (xs : List A) → All P (x ∷ xs) → All P xs
All_rest P x xs h = λ k d l. h (suc k) d (omega (arith, l))

pub All_first : {A : Type 0} (P : A → Type 0) (x : A) (xs : List A) → All P (x ∷ xs) → P x
All_first P x xs h = h 0 x (omega arith)

fold_has : {A : Type 0} (P : A → Type 0) (f : A → Fraction) (a : A) (xs : List A) → P a → All P xs → P (fold (greater f) a xs)
fold_has P f a [] p h = p
fold_has P f a (x ∷ xs) p h = fold_has P f (greater f a x) xs (greater_has P f a x p (All_first P x xs h)) (All_rest P x xs h)

pub greatest_has : {A : Type 0} (P : A → Type 0) (f : A → Fraction) (xs : List A) (best : A) → All P xs → greatest f xs ≡ Some best → P best
greatest_has P f [] best h e = absurd cc
greatest_has P f (x ∷ xs) best h e =
    let same : fold (greater f) x xs ≡ best = cc in
    subst P same (fold_has P f x xs (All_first P x xs h) (All_rest P x xs h))
