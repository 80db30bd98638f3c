use Rattle.std.proofs.Common.{take}
use Rattle.std.specs.List.{AllZip}
use Rattle.explain.specs.Readings.{IsReading}
use Rattle.successive_cancel.specs.Rounds.{NoneIsTakenOff}
use Rattle.successive_cancel.proofs.making.round_on.Given as goal

-- no entry so far can be cancelled, and the workspace still holds the readings of all entries
abbrev pub invariant-loop-i : goal.invariant-loop-i
invariant-loop-i l = record {
  none : NoneIsTakenOff l.recording (take l.i l.list);
  readings : AllZip (IsReading l.recording) l.list l.work;
}
