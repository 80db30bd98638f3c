-- Bit words in lexicographic order, and keys that separate words of equal cost (own).
use Rattle.std.specs.Prelude.{◌≡◌, ℕ, ◌+◌, ◌*◌, ◌<◌, ◌≤◌, Bool, true, false, List, [], ◌∷◌, length}
use Rattle.cs_bits.specs.Numbers.{number}

-- the left word precedes the right word in lexicographic order: where the two first differ, the left one has 0
abbrev pub IsBefore : List Bool → List Bool → Type 0
IsBefore [] ys = ⊥
IsBefore (x ∷ xs) [] = ⊥
IsBefore (false ∷ xs) (false ∷ ys) = IsBefore xs ys
IsBefore (false ∷ xs) (true ∷ ys) = Unit {0}
IsBefore (true ∷ xs) (false ∷ ys) = ⊥
IsBefore (true ∷ xs) (true ∷ ys) = IsBefore xs ys

-- `word` is the lexicographically first among the cheapest words of `n` bits
pub record IsFirstLeast (n : ℕ) (cost : List Bool → ℕ) (word : List Bool) : Type 0 where
  pub size : length word ≡ n
  pub least : (other : List Bool) → length other ≡ n → cost word ≤ cost other
  pub first : (other : List Bool) → length other ≡ n → IsBefore other word → cost word < cost other

-- a word's cost and its number, combined in one key. If `scale` exceeds every word's number, the smallest key belongs
-- to the lexicographically first of the cheapest words.
abbrev pub key : ℕ → (List Bool → ℕ) → List Bool → ℕ
key scale cost word = cost word * scale + number word
