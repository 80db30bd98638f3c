-- The sub-block interleaver: a stream is written to a 32-column matrix row by row, NULL bits first, and read column
-- by column (TS 36.212 sections 5.1.4.1.1 and 5.1.4.2.1).
use Rattle.std.specs.Prelude.{ℕ, ◌+◌, ◌-◌, ◌*◌, ◌/◌, ◌%◌, List, [], ◌∷◌, ◌++◌, take, drop, slice_index_or}
use Rattle.sub_block.specs.declared.Code.{Code}
use Rattle.sub_block.specs.declared.Code.TheVariants.{Convolutional, Turbo}

-- the turbo code's column permutation (TS 36.212 table 5.1.4-1)
unfoldable pub turbo_columns : List ℕ
turbo_columns =
    0 ∷ 16 ∷ 8 ∷ 24 ∷ 4 ∷ 20 ∷ 12 ∷ 28 ∷ 2 ∷ 18 ∷ 10 ∷ 26 ∷ 6 ∷ 22 ∷ 14 ∷ 30 ∷
    1 ∷ 17 ∷ 9 ∷ 25 ∷ 5 ∷ 21 ∷ 13 ∷ 29 ∷ 3 ∷ 19 ∷ 11 ∷ 27 ∷ 7 ∷ 23 ∷ 15 ∷ 31 ∷ []

-- the column permutation of a code; the convolutional code starts with the second half (TS 36.212 table 5.1.4-2)
unfoldable pub columns : Code → List ℕ
columns Turbo = turbo_columns
columns Convolutional = drop 16 turbo_columns ++ take 16 turbo_columns

-- the number of matrix rows for a stream of n bits
abbrev pub matrix_rows : ℕ → ℕ
matrix_rows n = (n + 31) / 32

-- the number of NULL bits that precede a stream of n bits in its matrix
abbrev pub nulls : ℕ → ℕ
nulls n = 32 * matrix_rows n - n

-- the cell, in a matrix of `r` rows, that is read after `m` other cells; cells are numbered row by row
abbrev pub cell : Code → ℕ → ℕ → ℕ
cell code r m = 32 * (m % r) + slice_index_or (columns code) (m / r) 0
