-- The position of a cell in a recording. (own)
use Rattle.std.specs.Prelude.{ℕ}

-- a cell's identity, and the sample of the recording at which the cell's first frame starts
pub record Place : Type 0 where
  pub id : ℕ
  pub start : ℕ
