use Rattle.std.specs.List.{AllWithin}
use Rattle.wide_list.specs.First.{HasNone}
use Rattle.wide_list.specs.Together.{HasFieldsTogether}
use Rattle.wide_list.proofs.together.first_together.Given as goal

abbrev pub invariant-loop-frame : goal.invariant-loop-frame
invariant-loop-frame l = AllWithin (HasNone (HasFieldsTogether l.frames)) l.frames 0 l.frame-index
