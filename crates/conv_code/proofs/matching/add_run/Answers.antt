use Rattle.std.proofs.Common.{◌≡◌, ◌+◌, ◌-◌, ◌<◌, arith}
use Rattle.conv_code.specs.Steps.{place_of}
use Rattle.conv_code.proofs.Runs.{of_table, to_table, three_streams, run_more}
use Rattle.conv_code.proofs.matching.add_run.Goals as goal

pub loop-i-init : goal.loop-i-init
loop-i-init g c = of_table g.row.N c.args.first c.args.values.now c.args.at c.args.sums.now c.requires.before

pub add_at-requires : goal.add_at-requires
add_at-requires g c =
    let n = g.row.N in
    let first = c.args.first + c.args.at in
    let stream = three_streams n first (omega arith) in
    let place : place_of n first + (c.loop-i.i - c.args.at) < n = omega (arith, c.requires.one, c.loop-i-test.true) in
    let room = c.loop-i.invariant.small _ _ stream place in
    (omega arith, (omega arith, (stream, (place, omega (arith, room)))))

pub loop-i-preserved : goal.loop-i-preserved
loop-i-preserved g c =
    let n = g.row.N in
    let first = c.args.first + c.args.at in
    let place : place_of n first + (c.loop-i.i - c.args.at) < n = omega (arith, c.requires.one, c.loop-i-test.true) in
    rw c.add_at.ensures.sum
    (run_more n c.args.first c.args.values.now c.args.at c.loop-i.i c.loop-i.sums (omega arith) (omega arith) place c.add_at.ensures.magnitude c.loop-i.invariant)

pub returns : goal.returns
returns g c =
    let all : c.loop-i.i ≡ c.args.end = omega arith in
    record { after = rw all at (to_table g.row.N c.args.first c.args.values.now c.loop-i.i c.loop-i.sums c.loop-i.invariant) }
