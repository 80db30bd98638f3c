use Rattle.std.proofs.Common.{◌%◌, take}
use Rattle.std.specs.Prelude.{filter}
use Rattle.std.specs.List.{AllZip}
use Rattle.reasons.specs.Reason.{has_root, IsFirstFailing}
use Rattle.reasons.proofs.reasons.failing_at.Given as goal

abbrev pub invariant-loop-hit : goal.invariant-loop-hit
invariant-loop-hit g l =
    AllZip (IsFirstFailing g.F.FrameReader.receiver l.recording l.id) (filter (has_root (l.id % 3)) (take l.hit-index l.hits)) l.reasons.items
