use Rattle.std.proofs.Common.{take}
use Rattle.uper.specs.Grammar.{times}
use Rattle.sib1.specs.Layout.{scheduling_info}
use Rattle.uper.specs.Sheet.{Puts}
use Rattle.sib1.proofs.write_schedule.put_scheduling_infos.Given as goal

abbrev pub invariant-loop-item : goal.invariant-loop-item
invariant-loop-item l = Puts (times l.item-index scheduling_info) (take l.item-index l.list) l.fn.sheet l.sheet
