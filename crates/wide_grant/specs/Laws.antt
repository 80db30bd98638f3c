-- Laws: the resource indication value of TS 36.213 section 7.1.6.3, and the interleaver matrix of TS 36.211 section
-- 6.2.3.2.
use Rattle.std.specs.Prelude.{◌≡◌, ℕ, ◌+◌, ◌-◌, ◌*◌, ◌/◌, ◌<◌, ◌≤◌, Bool, true, ◌||◌, nat_eq, nat_le, nat_lt, if◌then◌else◌, List, [], ◌∷◌}
use Rattle.std.specs.List.{position_or_len}
use Rattle.finite.specs.Lists.{joined_below}
use Rattle.wide_cell.specs.Cell.{IsBlockCount}
use Rattle.wide_grant.specs.declared.run.Run.{Run}
use Rattle.wide_grant.specs.Runs.{run_count, run_of}
use Rattle.wide_grant.specs.Distributed.{virtual_blocks, unit, rows, nulls, interleaved, physical}

-- ---- the resource indication value

-- the resource indication value of a run among `count` blocks
abbrev pub value_of : ℕ → Run → ℕ
value_of count run =
    if nat_le (run.blocks - 1) (count / 2) then count * (run.blocks - 1) + run.start
    else count * (count - run.blocks + 1) + (count - 1 - run.start)

-- a run has a resource indication value, and ends within the `count` blocks
pub record HasValue (count value : ℕ) (run : Run) : Type 0 where
  pub some : 1 ≤ run.blocks
  pub inside : run.start + run.blocks ≤ count
  pub is : value_of count run ≡ value

-- each resource indication value below `run_count count` selects the run with that value
abbrev pub RunsHaveValues : Type 0
RunsHaveValues = (count value : ℕ) → value < run_count count → HasValue count value (run_of count value)

-- ---- the interleaver

-- whether the matrix with r rows and z NULL elements has a virtual resource block in a row and a column: in the last
-- z / 2 rows, columns 1 and 3 have NULL elements
abbrev pub has_element : ℕ → ℕ → ℕ → ℕ → Bool
has_element r z row column = nat_lt row (r - z / 2) || (nat_eq column 0 || nat_eq column 2)

-- the virtual resource block that is written to a row and a column, row by row: rows without NULL elements have four
-- blocks, rows with NULL elements two
abbrev pub written_at : ℕ → ℕ → ℕ → ℕ → ℕ
written_at r z row column =
    if nat_lt row (r - z / 2) then 4 * row + column
    else 4 * (r - z / 2) + 2 * (row - (r - z / 2)) + column / 2

-- the virtual resource blocks in the order in which the matrix is read, column by column
unfoldable pub read_order : ℕ → ℕ → List ℕ
read_order r z =
    joined_below 4 (λ column. joined_below r (λ row.
    if has_element r z row column then written_at r z row column ∷ [] else []))

-- a bandwidth has a gap: each bandwidth has the first gap; from 50 resource blocks it also has the second
abbrev pub HasGap : ℕ → Bool → Type 0
HasGap blocks second = IsBlockCount blocks × (second ≡ true → 50 ≤ blocks)

-- for each virtual resource block of a unit, the index after interleaving is the block's position in the matrix as read
abbrev pub IsMatrixOrder : Type 0
IsMatrixOrder = (blocks : ℕ) (second : Bool) → HasGap blocks second → (v : ℕ) → v < unit blocks second →
    position_or_len (nat_eq v) (read_order (rows blocks second) (nulls blocks second))
    ≡ interleaved (rows blocks second) (nulls blocks second) (unit blocks second) v

-- each distributed virtual resource block is mapped to a resource block of the cell
abbrev pub AreBlocksOfCell : Type 0
AreBlocksOfCell = (blocks : ℕ) (second odd : Bool) → HasGap blocks second → (v : ℕ) → v < virtual_blocks blocks second →
    physical blocks second odd v < blocks
