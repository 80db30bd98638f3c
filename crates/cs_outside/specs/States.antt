-- The state of each source and sink, as contracts see it (own).
use Rattle.std.specs.Prelude.{ℕ, List}

-- a MemSink: the bytes written, the free space, and the number of failed calls
pub record MemSinkState : Type 0 where
  pub taken : List ℕ
  pub room : ℕ
  pub faults : ℕ

-- a FailSource: the remaining bytes, the numbers of the calls that fail, the maximum number of bytes per call, the
-- number of the next call, and the number of failed calls
pub record FailSourceState : Type 0 where
  pub left : List ℕ
  pub fails : List ℕ
  pub most : ℕ
  pub call : ℕ
  pub faults : ℕ

-- a FailSink: the bytes written, the free space, the numbers of the calls that fail, the maximum number of bytes per
-- call, the number of the next call, and the number of failed calls
pub record FailSinkState : Type 0 where
  pub taken : List ℕ
  pub room : ℕ
  pub fails : List ℕ
  pub most : ℕ
  pub call : ℕ
  pub faults : ℕ

-- a StdSource or a StdSink: the std reader or writer, and the number of failed calls
pub record StdState (T : Type 0) : Type 0 where
  pub inner : T
  pub faults : ℕ
