use Rattle.std.proofs.Common.{◌≡◌, ◌≤◌, ◌+◌, ◌-◌, length, vec_len}
use Rattle.cs_outside.specs.Streams.{HasRead}
use Rattle.cs_outside.proofs.streams.read_to_end.Given as goal

abbrev pub invariant-loop-bytes : goal.invariant-loop-bytes
invariant-loop-bytes g l = record {
  so_far : HasRead l.bytes.items (g.S.Source.state l.fn.source) (g.S.Source.state l.source);
  later : (g.S.Source.state l.fn.source).faults ≤ (g.S.Source.state l.source).faults;
  few : length l.bytes.items ≤ l.limit;
  whole : length l.buffer ≡ 4096;
}

abbrev pub decreases-loop-bytes : goal.decreases-loop-bytes
decreases-loop-bytes g l = l.limit + 1 - vec_len l.bytes
