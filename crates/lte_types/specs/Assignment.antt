-- The resource allocation of SIB1.
use Rattle.std.specs.Prelude.{ℕ, ◌+◌, ◌≤◌}

-- a resource allocation: the control format indicator, the first resource block and the number of contiguous blocks
pub record Assigned : Type 0 where
  pub cfi : ℕ
  pub start : ℕ
  pub blocks : ℕ

-- `blocks` resource blocks from block `start`: at least one, and all among the carrier's six
pub record AreBlocks (start blocks : ℕ) : Type 0 where
  pub some : 1 ≤ blocks
  pub inside : start + blocks ≤ 6

-- a valid allocation: resource blocks of the carrier, and a control format indicator of at least 2, for which the
-- control region has room for a PDCCH candidate in the common search space
pub record IsAssignment (assigned : Assigned) : Type 0 where
  pub wide : 2 ≤ assigned.cfi
  pub are : AreBlocks assigned.start assigned.blocks
