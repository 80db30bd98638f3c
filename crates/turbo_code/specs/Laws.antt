-- Laws of the interleaver and of rate matching (TS 36.212 sections 5.1.3.2.3 and 5.1.4.1).
use Rattle.std.specs.Prelude.{◌≡◌, ℕ, ◌+◌, ◌*◌, ◌<◌, length}
use Rattle.sub_block.specs.Items.{ReadsEachOnce}
use Rattle.turbo_code.specs.declared.rows.Row.{Row}
use Rattle.turbo_code.specs.Table.{IsAnyRow, IsAnySize, interleaver}
use Rattle.turbo_code.specs.Reading.{item_of, reading}

-- `f` permutes the numbers below `n`
pub record Permutes (n : ℕ) (f : ℕ → ℕ) : Type 0 where
  pub below : (i : ℕ) → i < n → f i < n
  pub one_to_one : (i j : ℕ) → i < n → j < n → f i ≡ f j → i ≡ j
  pub onto : (y : ℕ) → y < n → (i : ℕ) × (i < n) × (f i ≡ y)

-- for each row in either table, the interleaver is a permutation
abbrev pub RowsPermute : Type 0
RowsPermute = (row : Row) → IsAnyRow row → Permutes row.k (interleaver row)

-- one round of the circular buffer, for the block size `k`, has 3(k + 4) bits: each bit in three streams of k + 4 bits
-- once
pub record ReadsEachBitOnce (k rv : ℕ) : Type 0 where
  pub count : length (reading k rv) ≡ 3 * (k + 4)
  pub reads : ReadsEachOnce (k + 4) (item_of k rv)

-- for each block size in either table and each redundancy version, one round of the circular buffer reads each bit once
abbrev pub ReadingIsWhole : Type 0
ReadingIsWhole = (k rv : ℕ) → IsAnySize k → rv < 4 → ReadsEachBitOnce k rv
