use Rattle.std.proofs.Common.{◌≡◌, length, arith}
use Rattle.conv_code.proofs.Runs.{none_yet}
use Rattle.conv_code.proofs.matching.by_place.Goals as goal

pub loop-at-init : goal.loop-at-init
loop-at-init g c = (none_yet g.row.N c.args.first c.args.values.now, omega arith)

pub loop-at-preserved : goal.loop-at-preserved
loop-at-preserved g c = (c.add_run.ensures.after, omega arith)

pub returns : goal.returns
returns g c =
    let all : c.loop-at.at ≡ length c.args.values.now = omega (arith, c.loop-at.invariant.1, c.loop-at-test.false) in
    rw all at c.loop-at.invariant.0
