use Rattle.std.proofs.Common.{◌≡◌, suc, ◌+◌, ◌<◌, [], length, arith, length-set}
use Rattle.turbo_dec.specs.Decoder.{values_of}
use Rattle.turbo_dec.proofs.Rows.{first_row, later_row, rows_first, rows_more}
use Rattle.turbo_dec.proofs.constituent.forward.Goals as goal

pub loop-k-init : goal.loop-k-init
loop-k-init c =
    let first = first_row (values_of c.args.streams.now.systematic.now c.args.streams.now.parity.now [] c.args.streams.now.prior.now) _ c.start_row-row.ensures.row in
    (first, rows_first _ _ _ (omega arith) first)

pub loop-k-preserved : goal.loop-k-preserved
loop-k-preserved c =
    let e : c.loop-k.k + 1 ≡ suc c.loop-k.k = omega arith in
    let inside : suc c.loop-k.k < length c.loop-k.rows = omega (arith, simp length-set at c.loop-k.auto.rows, c.requires.room, c.loop-k-test.true) in
    let known = c.loop-k.invariant in
    let later = later_row (values_of c.args.streams.now.systematic.now c.args.streams.now.parity.now [] c.args.streams.now.prior.now) _ _ _ _ _ known.0 c.soft_at.ensures.sum c.soft_at.ensures.parity c.forward_row-row.ensures.least c.forward_row-row.ensures.growth in
    rw e (later, rows_more (values_of c.args.streams.now.systematic.now c.args.streams.now.parity.now [] c.args.streams.now.prior.now) _ _ _ inside known.1 later)
