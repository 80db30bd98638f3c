-- Coded bits by stream and index, and sums of soft values over them (TS 36.212 section 5.1.4).
use Rattle.std.specs.Prelude.{◌≡◌, ℕ, ◌-◌, ◌*◌, ◌<◌, Bool, ◌&&◌, cond, nat_eq, nat_le, List, map, filter, slice_index_or, ℤ, pos}
use Rattle.finite.specs.Lists.{values_below}
use Rattle.finite.specs.Sums.{sum_below}
use Rattle.sub_block.specs.declared.Code.{Code}
use Rattle.sub_block.specs.declared.Item.{Item}
use Rattle.sub_block.specs.Matrix.{cell}

-- the item at index `p` in stream `t`
abbrev pub item : ℕ → ℕ → Item
item t p = record { stream = t; index = p }

-- the cells of stream `t` in a matrix with `r` rows, in the order in which they are read
abbrev pub cells_read : Code → ℕ → ℕ → List Item
cells_read code r t = values_below (32 * r) (λ m. item t (cell code r m))

-- the bits in the matrix cells `cells`, without the `skipped` NULL bits that precede each stream
unfoldable pub bits_in : ℕ → List Item → List Item
bits_in skipped cells = map (λ c. item c.stream (c.index - skipped)) (filter (λ c. nat_le skipped c.index) cells)

-- whether the item `here` is at index `p` in stream `t`
abbrev pub is_at : ℕ → ℕ → Item → Bool
is_at t p here = nat_eq here.stream t && nat_eq here.index p

-- the sum of the soft values, among the first `m`, that the bit order `reading` maps to index `p` of stream `t`
unfoldable pub summed_at : (ℕ → Item) → List ℤ → ℕ → ℕ → ℕ → ℤ
summed_at reading values m t p =
    sum_below m (λ i. cond (is_at t p (reading i)) (slice_index_or values i (pos 0)) (pos 0))

-- `reading` is a bit order for three streams of `n` bits: each item is a coded bit, the first 3n items are different,
-- and each coded bit occurs among them
pub record ReadsEachOnce (n : ℕ) (reading : ℕ → Item) : Type 0 where
  pub inside : (i : ℕ) → ((reading i).stream < 3) × ((reading i).index < n)
  pub once : (i j : ℕ) → i < 3 * n → j < 3 * n → reading i ≡ reading j → i ≡ j
  pub each : (t p : ℕ) → t < 3 → p < n → (i : ℕ) × (i < 3 * n) × (reading i ≡ item t p)
