use Rattle.wide_grid.specs.Control.{phich_group as phich_group_of}
use Rattle.wide_grid.proofs.Loops.{later_step}
use Rattle.wide_grid.proofs.phich.add_phich_groups.Goals as goal

pub loop-i-preserved : goal.loop-i-preserved
loop-i-preserved c =
    later_step (phich_group_of c.args.cell.now c.args.m) c.loop-i.i c.args.groups.now.items c.loop-i.groups.items _ _
    c.loop-i.invariant c.in_ok-phich_group.ensures c.in_ok-push.ensures.items
