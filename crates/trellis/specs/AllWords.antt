-- Tests and maxima over all words of n bits (own).
use Rattle.std.specs.Prelude.{ℕ, zero, suc, Bool, true, false, ◌&&◌, List, [], ◌∷◌, ℤ}
use Rattle.std.specs.Int.{int_max}

-- whether the test `p` is true for every word of n bits
unfoldable pub every_word : ℕ → (List Bool → Bool) → Bool
every_word zero p = p []
every_word (suc n) p = every_word n (λ word. p (false ∷ word)) && every_word n (λ word. p (true ∷ word))

-- the maximum of f over all words of n bits
unfoldable pub greatest : ℕ → (List Bool → ℤ) → ℤ
greatest zero f = f []
greatest (suc n) f = int_max (greatest n (λ word. f (false ∷ word))) (greatest n (λ word. f (true ∷ word)))
