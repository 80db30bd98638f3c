-- Lists indexed by the numbers below n.
use Rattle.std.specs.Prelude.{ℕ, zero, suc, List, [], ◌++◌, map}
use Rattle.std.specs.List.{range_with_len}

-- the list f 0, .., f (n - 1)
abbrev pub values_below : {A : Type 0} → ℕ → (ℕ → A) → List A
values_below n f = map f (range_with_len 0 n)

-- the lists f 0, .., f (n - 1), concatenated
unfoldable pub joined_below : {A : Type 0} → ℕ → (ℕ → List A) → List A
joined_below zero f = []
joined_below (suc n) f = joined_below n f ++ f n
