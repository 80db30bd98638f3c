-- Bounds on the magnitudes in a list of integers, and in a list of rows.
use Rattle.std.specs.Prelude.{ℕ, ◌≤◌, List, All, ℤ, nat_abs}

-- each number in `values` has magnitude at most `bound`
abbrev pub AllWithin : ℕ → List ℤ → Type 0
AllWithin bound values = All (λ value. nat_abs value ≤ bound) values

-- each number in each row of `rows` has magnitude at most `bound`
abbrev pub RowsWithin : ℕ → List (List ℤ) → Type 0
RowsWithin bound rows = All (AllWithin bound) rows
