-- The states that a source and a sink in memory report. (own)
use Rattle.std.specs.Prelude.{ℕ, Some, List}
use Rattle.cs_outside.specs.Outside.{SourceState, SinkState}
use Rattle.cs_outside.specs.States.{MemSinkState}

-- the state of a source in memory: the remaining bytes, and no failed call
abbrev pub in_memory : List ℕ → SourceState
in_memory left = record { left = Some left; faults = 0 }

-- the state of a sink in memory: the bytes written, the remaining room, and the number of failed calls
abbrev pub taken_by : MemSinkState → SinkState
taken_by sink = record { taken = Some sink.taken; room = Some sink.room; faults = sink.faults }
