use Rattle.std.proofs.Common.{◌≤◌, ◌++◌, length}
use Rattle.sample_file.specs.Recording.{bytes_of}
use Rattle.sample_file.specs.Writing.{HasWrittenPieces}
use Rattle.sample_file.proofs.pieces.PieceWriter.push.Given as goal

abbrev pub invariant-loop-rest : goal.invariant-loop-rest
invariant-loop-rest g l = record {
  so_far : HasWrittenPieces (l.fn.self ++ bytes_of l.samples) (l.self ++ bytes_of l.rest) (g.K.Sink.state l.fn.sink) (g.K.Sink.state l.sink);
  later : (g.K.Sink.state l.fn.sink).faults ≤ (g.K.Sink.state l.sink).faults;
}

abbrev pub decreases-loop-rest : goal.decreases-loop-rest
decreases-loop-rest g l = length l.rest
