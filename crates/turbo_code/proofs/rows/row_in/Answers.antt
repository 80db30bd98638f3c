use Rattle.turbo_code.specs.Table.{row}
use Rattle.turbo_code.proofs.TableFacts.{row_at, none_so_far, none_at_all}
use Rattle.turbo_code.proofs.rows.row_in.Goals as goal

pub returns-then-row-size : goal.returns-then-row-size
returns-then-row-size c = (row_at c.args.rows.now c.loop-row.row-index (row 0 0 0) c.loop-row-test.true, c.if-row-size.true)

pub loop-row-preserved : goal.loop-row-preserved
loop-row-preserved c = none_so_far c.args.rows.now c.args.size c.loop-row.row-index c.if-row-size.false c.loop-row.invariant

pub returns : goal.returns
returns c = none_at_all c.args.rows.now c.args.size c.loop-row.row-index c.loop-row-test.false c.loop-row.invariant
