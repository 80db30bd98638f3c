use Rattle.std.proofs.Common.{take}
use Rattle.std.specs.List.{AllZip}
use Rattle.evidence.specs.Shown.{IsShownFor}
use Rattle.evidence.proofs.support.support_of_list.Given as goal

abbrev pub invariant-loop-i : goal.invariant-loop-i
invariant-loop-i g l = AllZip (IsShownFor g.receiver l.recording) (take l.i l.entries) l.list.items

abbrev pub ghost-support_of : goal.ghost-support_of
ghost-support_of g a = g.receiver
