-- Rate matching, and sums over soft values (TS 36.212 section 5.1.4.2).
use Rattle.std.specs.Prelude.{ℕ, ◌+◌, ◌*◌, ◌%◌, Bool, false, List, [], ◌++◌, length, map, slice_index_or, ℤ}
use Rattle.finite.specs.Lists.{values_below}
use Rattle.sub_block.specs.declared.Code.TheVariants.{Convolutional}
use Rattle.sub_block.specs.declared.Item.{Item}
use Rattle.sub_block.specs.Matrix.{matrix_rows, nulls}
use Rattle.sub_block.specs.Items.{item, cells_read, bits_in, summed_at}

-- the circular buffer, NULL bits included: three matrices with `r` rows, read one after the other
abbrev pub matrices_read : ℕ → List Item
matrices_read r = cells_read Convolutional r 0 ++ cells_read Convolutional r 1 ++ cells_read Convolutional r 2

-- one round of the circular buffer without its NULL bits, for n bits per stream
unfoldable pub reading : ℕ → List Item
reading n = bits_in (nulls n) (matrices_read (matrix_rows n))

-- the indices of an n-bit stream in interleaved order
unfoldable pub stream_order : ℕ → List ℕ
stream_order n = map (λ bit. bit.index) (bits_in (nulls n) (cells_read Convolutional (matrix_rows n) 0))

-- the coded bit that rate matching outputs as bit i; the buffer is read cyclically
unfoldable pub item_of : ℕ → ℕ → Item
item_of n i = slice_index_or (reading n) (i % (3 * n)) (item 0 0)

-- the coded bit's value `p` in the codeword `coded`
abbrev pub bit_of_item : List (List Bool) → Item → Bool
bit_of_item coded p = slice_index_or (slice_index_or coded p.index []) p.stream false

-- per coded bit, the sum of the soft values that the bit order `reading` maps to the bit
unfoldable pub summed_by : (ℕ → Item) → ℕ → List ℤ → List (List ℤ)
summed_by reading n values = values_below n (λ p. values_below 3 (λ t. summed_at reading values (length values) t p))

-- per coded bit, the sum of its soft values in `values`, which start at rate-matched bit 0
abbrev pub summed : ℕ → List ℤ → List (List ℤ)
summed n values = summed_by (item_of n) n values

-- per coded bit, the sum of its soft values in `values`, which start at rate-matched bit `first`
abbrev pub summed_from : ℕ → ℕ → List ℤ → List (List ℤ)
summed_from first n values = summed_by (λ i. item_of n (first + i)) n values
