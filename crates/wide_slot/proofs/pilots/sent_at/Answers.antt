use Rattle.std.proofs.Common.{arith, ◌/◌, ap}
use Rattle.wide_slot.proofs.Bounds.{pilot_below}
use Rattle.wide_slot.proofs.pilots.sent_at.Goals as goal

pub overflow_cast-m : goal.overflow_cast-m
overflow_cast-m c =
    let below = pilot_below c.args.cell.now c.args.layout.now c.args.i c.requires.layout c.requires.i in
    let same = ap (λ n. n / 6) c.subcarrier-k.ensures in
    omega (arith, below, same, c.requires.layout.blocks)
