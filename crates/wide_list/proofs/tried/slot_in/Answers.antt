use Rattle.std.proofs.Common.{◌+◌, ◌*◌, ◌^◌, ◌≤◌, length, arith}
use Rattle.halving.specs.Wide.{narrowed}
use Rattle.wide_list.proofs.Lengths.{halved_fits, slot_inside}
use Rattle.wide_list.proofs.tried.slot_in.Goals as goal

pub receive-requires-clause-inside : goal.receive-requires-clause-inside
receive-requires-clause-inside c =
    let wide = c.args.wide.now in
    let frame = c.args.found.now.start + 19200 * c.args.j in
    let whole = c.requires.whole in
    let inside : frame + 19200 ≤ length (narrowed wide) = omega (arith, whole) in
    slot_inside (2 ^ wide.rate) frame c.args.number (length (narrowed wide)) (length wide.samples) c.requires.number inside (halved_fits wide.rate wide.samples)
