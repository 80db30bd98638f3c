use Rattle.std.proofs.Common.{◌≤◌, length}
use Rattle.cs_outside.proofs.Writing.{WrittenSoFar}
use Rattle.cs_outside.proofs.streams.write_whole.Given as goal

abbrev pub invariant-loop-rest : goal.invariant-loop-rest
invariant-loop-rest g l = record {
  so_far : WrittenSoFar l.piece l.rest (g.K.Sink.state l.fn.sink) (g.K.Sink.state l.sink);
  later : (g.K.Sink.state l.fn.sink).faults ≤ (g.K.Sink.state l.sink).faults;
}

abbrev pub decreases-loop-rest : goal.decreases-loop-rest
decreases-loop-rest g l = length l.rest
