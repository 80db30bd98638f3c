use Rattle.std.proofs.Common.{subst}
use Rattle.sib1.specs.Layout.{scheduling_info}
use Rattle.uper.specs.Sheet.{Puts}
use Rattle.uper.proofs.Putting.{puts_none}
use Rattle.uper.proofs.Putting.{each_puts}
use Rattle.sib1.proofs.write_schedule.put_scheduling_infos.Goals as goal

pub loop-item-init : goal.loop-item-init
loop-item-init c = puts_none scheduling_info c.args.sheet.now

pub loop-item-preserved : goal.loop-item-preserved
loop-item-preserved c =
    each_puts scheduling_info c.args.list.now c.loop-item.item-index c.item-item.result c.args.sheet.now c.loop-item.sheet c.put_scheduling_info.new.sheet c.loop-item-test.true c.loop-item.invariant
    (subst (λ m. Puts scheduling_info m c.loop-item.sheet c.put_scheduling_info.new.sheet) c.item-item.is c.put_scheduling_info.ensures)
