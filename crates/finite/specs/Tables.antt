-- Integer tables with rows of equal length.
use Rattle.std.specs.Prelude.{ℕ, List, [], slice_index_or, slice_set, ℤ, pos, ◌+ℤ◌}

-- the entry of `table` at `row` and `column`, or 0 outside the table
abbrev pub sum_at : List (List ℤ) → ℕ → ℕ → ℤ
sum_at table row column = slice_index_or (slice_index_or table row []) column (pos 0)

-- `table` with `v` added to the entry at `row` and `column`
abbrev pub sums_with : List (List ℤ) → ℕ → ℕ → ℤ → List (List ℤ)
sums_with table row column v =
    slice_set table row (slice_set (slice_index_or table row []) column (sum_at table row column +ℤ v))
