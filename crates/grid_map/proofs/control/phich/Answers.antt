use Rattle.std.proofs.Common.{refl, arith, ◌≡◌}
use Rattle.grid_map.specs.Control.{phich_group, phich_count}
use Rattle.grid_map.proofs.Regions.{phich_none, phich_more, phich_all}
use Rattle.grid_map.proofs.control.phich.Goals as goal

pub loop-m-init : goal.loop-m-init
loop-m-init c = phich_none c.args.id c.args.duration c.new-groups.result.items c.new-groups.ensures

pub loop-m-preserved : goal.loop-m-preserved
loop-m-preserved c =
    let f = phich_group c.args.id c.args.duration c.loop-m.m in
    let first = c.phich_of.ensures in
    let second = c.phich_of-in-loop-m.ensures in
    let third = c.phich_of-in-loop-m-2.ensures in
    phich_more c.args.id c.args.duration c.loop-m.m c.loop-m.groups.items c.push-in-loop-m-2.new.self.items (f 0) (f 1) (f 2) refl
    (cc) c.loop-m.invariant

pub returns : goal.returns
returns c =
    let e = c.count_of-m-end.ensures.value in
    let last : c.loop-m.m ≡ phich_count c.args.resource = omega (arith, e) in
    phich_all c.args.id c.args.duration c.args.resource c.loop-m.groups.items (rw last at c.loop-m.invariant)
