-- The known state of a source and a sink, and runs that leave it unchanged (own).
use Rattle.std.specs.Prelude.{◌≡◌, ℕ, Option, List}

-- a source's known state: the remaining bytes, or nothing about them, and the number of failed calls
pub record SourceState : Type 0 where
  pub left : Option (List ℕ)
  pub faults : ℕ

-- a sink's known state: the bytes written and the free space, or nothing about them, and the number of failed calls
pub record SinkState : Type 0 where
  pub taken : Option (List ℕ)
  pub room : Option ℕ
  pub faults : ℕ

-- the known state of a run's source and sink
abbrev pub Outside : Type 0
Outside = SourceState × SinkState

-- between the source states `before` and `now`, nothing was read and no read failed
pub record NothingRead (before now : SourceState) : Type 0 where
  pub left : now.left ≡ before.left
  pub faults : now.faults ≡ before.faults

-- between the sink states `before` and `now`, nothing was written and no write failed
pub record NothingWritten (before now : SinkState) : Type 0 where
  pub taken : now.taken ≡ before.taken
  pub room : now.room ≡ before.room
  pub faults : now.faults ≡ before.faults
