-- Writing samples in pieces: the bytes that a sink took between its states `before` and `now`. (own)
use Rattle.std.specs.Prelude.{◌≡◌, ℕ, ◌%◌, ◌++◌, List, length}
use Rattle.cs_outside.specs.Outside.{SinkState}
use Rattle.cs_outside.specs.Streams.{HasWritten}

-- the number of bytes in a complete piece
abbrev pub piece_bytes : ℕ
piece_bytes = 16384

-- a prefix of `bytes` was written in complete pieces, and `rest` is not written yet
pub record HasWrittenPieces (bytes rest : List ℕ) (before now : SinkState) : Type 0 where
  pub front : List ℕ
  pub split : bytes ≡ front ++ rest
  pub whole_pieces : length front % piece_bytes ≡ 0
  pub written : HasWritten front before now
