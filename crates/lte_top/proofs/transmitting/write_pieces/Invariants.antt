use Rattle.std.proofs.Common.{◌≡◌, ◌-◌, ◌≤◌, ◌++◌, drop, length}
use Rattle.sample_file.specs.Recording.{bytes_of}
use Rattle.sample_file.specs.Writing.{HasWrittenPieces}
use Rattle.lte_top.proofs.transmitting.write_pieces.Given as goal

abbrev pub decreases-loop-writer : goal.decreases-loop-writer
decreases-loop-writer g l = length l.emitter.samples - l.emitter.at

abbrev pub invariant-loop-writer : goal.invariant-loop-writer
invariant-loop-writer g l = record {
  samples : l.emitter.samples ≡ l.fn.emitter.samples;
  so_far : HasWrittenPieces (bytes_of l.fn.emitter.samples) (l.writer ++ bytes_of (drop l.emitter.at l.emitter.samples)) (g.K.Sink.state l.fn.sink) (g.K.Sink.state l.sink);
  later : (g.K.Sink.state l.fn.sink).faults ≤ (g.K.Sink.state l.sink).faults;
}
