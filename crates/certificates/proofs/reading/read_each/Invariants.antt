use Rattle.std.proofs.Common.{◌<◌, ◌≤◌, ◌+◌, ◌-◌, length, take}
use Rattle.certificates.specs.Reading.{IsAim}
use Rattle.certificates.proofs.Progress.{IsReadTo}
use Rattle.certificates.proofs.reading.read_each.Given as goal

abbrev pub invariant-loop-answers : goal.invariant-loop-answers
invariant-loop-answers g l = record {
  so_far : IsReadTo l.answers.items l.done (take l.filled l.part) (g.S.Source.state l.fn.source) (g.S.Source.state l.source);
  later : (g.S.Source.state l.fn.source).faults ≤ (g.S.Source.state l.source).faults;
  room : l.aim ≤ length l.part;
  most : length l.part ≤ 665861;
  part : l.filled < l.aim;
  aims : IsAim (take l.filled l.part) l.aim;
  few : l.done + l.filled ≤ 67108864;
}

abbrev pub decreases-loop-answers : goal.decreases-loop-answers
decreases-loop-answers g l = 67108865 - (l.done + l.filled)
