-- A walk along the reading of the circular buffer, bit by bit. (own)
use Rattle.std.specs.Prelude.{◌≡◌, ℕ, ◌+◌, ◌*◌, ◌<◌, drop}
use Rattle.sub_block.specs.Matrix.{matrix_rows, nulls}
use Rattle.sub_block.specs.Items.{bits_in}
use Rattle.turbo_code.specs.Table.{IsAnySize}
use Rattle.turbo_code.specs.Reading.{buffer, start, turned, reading}

-- a walk's position: the block size `k`, the redundancy version `rv`, and the index of the round's next bit
pub record Standing : Type 0 where
  pub k : ℕ
  pub rv : ℕ
  pub bit : ℕ

-- the position of a walk before bit `bit` of a round
abbrev pub standing : ℕ → ℕ → ℕ → Standing
standing k rv bit = record { k = k; rv = rv; bit = bit }

-- from the cell at index `cell` of the rotated buffer to the end of the round, exactly the bits from index `bit` are
-- read, and at least one bit is left
pub record IsAt (k rv bit cell : ℕ) : Type 0 where
  pub size : IsAnySize k
  pub version : rv < 4
  pub inside : bit < 3 * (k + 4)
  pub rest :
      bits_in (nulls (k + 4)) (drop cell (turned (start k rv) (buffer (matrix_rows (k + 4))))) ≡ drop bit (reading k rv)
