-- Laws for tests and maxima over all words of n bits.
use Rattle.std.proofs.Common.{◌≡◌, ℕ, zero, suc, ◌⊎◌, inl, inr, Bool, true, false, cond, List, [], ◌∷◌, length, ℤ, refl, ap, sym, ◌∙◌, arith}
use Rattle.std.specs.Prelude.{◌≤ℤ◌, int_lt}
use Rattle.std.specs.Int.{int_max}
use Rattle.std.proofs.lemmas.Bool.{and_parts, and_from}
use Rattle.std.proofs.lemmas.Int.{ints, clamps}
use Rattle.trellis.specs.AllWords.{every_word, greatest}

-- ---- tests of every word

pub every_word_at : (n : ℕ) (p : List Bool → Bool) → every_word n p ≡ true → (word : List Bool) → length word ≡ n → p word ≡ true
unfolding every_word
every_word_at zero p h [] size = h
every_word_at zero p h (b ∷ word) size = absurd (omega (arith, size))
every_word_at (suc n) p h [] size = absurd (omega (arith, size))
every_word_at (suc n) p h (false ∷ word) size = every_word_at n (λ w. p (false ∷ w)) (and_parts _ _ h).0 word (omega (arith, size))
every_word_at (suc n) p h (true ∷ word) size = every_word_at n (λ w. p (true ∷ w)) (and_parts _ _ h).1 word (omega (arith, size))

pub every_word_all : (n : ℕ) (p : List Bool → Bool) → ((word : List Bool) → length word ≡ n → p word ≡ true) → every_word n p ≡ true
unfolding every_word
every_word_all zero p h = h [] refl
every_word_all (suc n) p h =
    and_from _ _ (every_word_all n (λ w. p (false ∷ w)) (λ w size. h (false ∷ w) (omega (arith, size))))
    (every_word_all n (λ w. p (true ∷ w)) (λ w size. h (true ∷ w) (omega (arith, size))))

-- ---- the maximum of a function

max_cases : (x y : ℤ) → (int_max x y ≡ x) ⊎ (int_max x y ≡ y)
max_cases x y = elim (int_lt y x) as (λ t. (cond t x y ≡ x) ⊎ (cond t x y ≡ y)) [ true ↦ inl refl | false ↦ inr refl ]

max-le_left : (x y : ℤ) → x ≤ℤ int_max x y
max-le_left x y = omega (arith, ints, clamps)

max-le_right : (x y : ℤ) → y ≤ℤ int_max x y
max-le_right x y = omega (arith, ints, clamps)

pub greatest-le : (n : ℕ) (f : List Bool → ℤ) (word : List Bool) → length word ≡ n → f word ≤ℤ greatest n f
unfolding greatest
greatest-le zero f [] size = omega (arith, ints)
greatest-le zero f (b ∷ word) size = absurd (omega (arith, size))
greatest-le (suc n) f [] size = absurd (omega (arith, size))
greatest-le (suc n) f (false ∷ word) size =
    let rest = greatest-le n (λ w. f (false ∷ w)) word (omega (arith, size)) in
    let max = max-le_left (greatest n (λ w. f (false ∷ w))) (greatest n (λ w. f (true ∷ w))) in
    omega (arith, ints, rest, max)
greatest-le (suc n) f (true ∷ word) size =
    let rest = greatest-le n (λ w. f (true ∷ w)) word (omega (arith, size)) in
    let max = max-le_right (greatest n (λ w. f (false ∷ w))) (greatest n (λ w. f (true ∷ w))) in
    omega (arith, ints, rest, max)

pub greatest_reached : (n : ℕ) (f : List Bool → ℤ) → (word : List Bool) × (length word ≡ n) × (f word ≡ greatest n f)
unfolding greatest
greatest_reached zero f = ([], refl, refl)
greatest_reached (suc n) f = elim (max_cases (greatest n (λ w. f (false ∷ w))) (greatest n (λ w. f (true ∷ w)))) [
  | inl e ↦ let (word, size, is) = greatest_reached n (λ w. f (false ∷ w)) in (false ∷ word, ap suc size, is ∙ sym e)
  | inr e ↦ let (word, size, is) = greatest_reached n (λ w. f (true ∷ w)) in (true ∷ word, ap suc size, is ∙ sym e)
]
