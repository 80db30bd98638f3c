-- Patterns of signs, and how many of them match given signs by coincidence. (own)
use Rattle.std.specs.Prelude.{◌≡◌, ℕ, zero, suc, ◌<◌, List, [], ◌∷◌, ◌++◌, map, ℤ, pos, negsuc, nat_abs, nat_le, slice_index_or, count_by}
use Rattle.accumulated_sss.specs.Signs.{matches}

-- all patterns of n signs, each 1 or -1
unfoldable pub all_patterns : ℕ → List (List ℤ)
all_patterns zero = [] ∷ []
all_patterns (suc n) =
    map (λ pattern. pos 1 ∷ pattern) (all_patterns n) ++ map (λ pattern. negsuc 0 ∷ pattern) (all_patterns n)

-- sign `i` of a pattern, or 0 past its end
abbrev pub sign_of : List ℤ → ℕ → ℤ
sign_of pattern i = slice_index_or pattern i (pos 0)

-- how many of all patterns of n signs match `signs` in at least `least` positions
unfoldable pub coincidences : ℕ → ℕ → (ℕ → ℤ) → ℕ
coincidences n least signs = count_by (λ pattern. nat_le least (matches n (sign_of pattern) signs)) (all_patterns n)

-- the first n signs are 1 or -1, and not 0
abbrev pub AreSigns : ℕ → (ℕ → ℤ) → Type 0
AreSigns n signs = (i : ℕ) → i < n → nat_abs (signs i) ≡ 1
