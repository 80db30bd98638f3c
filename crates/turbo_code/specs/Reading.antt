-- Rate matching: the order in which a codeword is sent, and the sums of received values (TS 36.212 section 5.1.4.1).
use Rattle.std.specs.Prelude.{ℕ, ◌+◌, ◌*◌, ◌%◌, Bool, false, List, [], ◌∷◌, ◌++◌, length, take, drop, slice_index_or, ℤ}
use Rattle.finite.specs.Lists.{values_below}
use Rattle.sub_block.specs.declared.Code.TheVariants.{Turbo}
use Rattle.sub_block.specs.declared.Item.{Item}
use Rattle.sub_block.specs.Matrix.{matrix_rows, nulls, cell}
use Rattle.sub_block.specs.Items.{item, cells_read, bits_in, summed_at}

-- stream 0 as read from a matrix of `r` rows
abbrev pub v0 : ℕ → List Item
v0 r = cells_read Turbo r 0

-- stream 1 as read from a matrix of `r` rows
abbrev pub v1 : ℕ → List Item
v1 r = cells_read Turbo r 1

-- stream 2 as read from a matrix of `r` rows; each cell is one later than in the other streams
abbrev pub v2 : ℕ → List Item
v2 r = values_below (32 * r) (λ m. item 2 ((cell Turbo r m + 1) % (32 * r)))

-- two lists interlaced, item by item, with the rest of the longer one at the end
abbrev pub in_turn : List Item → List Item → List Item
in_turn [] ys = ys
in_turn (x ∷ xs) [] = x ∷ xs
in_turn (x ∷ xs) (y ∷ ys) = x ∷ y ∷ in_turn xs ys

-- the circular buffer, NULL bits included, for matrices of `r` rows
unfoldable pub buffer : ℕ → List Item
buffer r = v0 r ++ in_turn (v1 r) (v2 r)

-- the index in the circular buffer of the first cell that redundancy version `rv` reads, for streams of k + 4 bits
abbrev pub start : ℕ → ℕ → ℕ
start k rv = matrix_rows (k + 4) * (24 * rv + 2)

-- the list `cells` rotated to start at index `s`
abbrev pub turned : ℕ → List Item → List Item
turned s cells = drop s cells ++ take s cells

-- one round of the circular buffer without its NULL bits, from the start of redundancy version `rv`: the coded bits in
-- three streams of k + 4 bits
unfoldable pub reading : ℕ → ℕ → List Item
reading k rv = bits_in (nulls (k + 4)) (turned (start k rv) (buffer (matrix_rows (k + 4))))

-- the item that rate matching outputs as bit `i`; the reading repeats without end
unfoldable pub item_of : ℕ → ℕ → ℕ → Item
item_of k rv i = slice_index_or (reading k rv) (i % length (reading k rv)) (item 0 0)

-- the bit of the codeword `d` at the item `p`
abbrev pub bit_of : List (List Bool) → Item → Bool
bit_of d p = slice_index_or (slice_index_or d p.stream []) p.index false

-- for each of 1,028 indices in each of three streams, the sum of the received values that the reading maps there
unfoldable pub summed : ℕ → ℕ → List ℤ → List (List ℤ)
summed k rv values = values_below 3 (λ t. values_below 1028 (summed_at (item_of k rv) values (length values) t))
