use Rattle.std.proofs.Common.{◌≡◌, ◌<◌, ◌≤◌, ◌+◌, ◌-◌, ◌*◌, length, take}
use Rattle.sample_file.specs.Recording.{width}
use Rattle.sample_file.specs.Steps.{HasReadFrontOf}
use Rattle.sample_file.proofs.reading.read_front_at.Given as goal

abbrev pub invariant-loop-front : goal.invariant-loop-front
invariant-loop-front g l = record {
  so_far : HasReadFrontOf l.form l.most l.front.samples.items l.front.count (take l.begun l.buffer) (g.S.Source.state l.fn.source) (g.S.Source.state l.source);
  later : (g.S.Source.state l.fn.source).faults ≤ (g.S.Source.state l.source).faults;
  few : width l.form * l.front.count + l.begun ≤ l.limit;
  begun : l.begun < width l.form;
  whole : length l.buffer ≡ 16384;
}

abbrev pub decreases-loop-front : goal.decreases-loop-front
decreases-loop-front g l = l.limit + 1 - (width l.form * l.front.count + l.begun)
