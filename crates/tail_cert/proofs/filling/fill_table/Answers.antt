use Rattle.std.proofs.Common.{◌≡◌, suc, ◌+◌, ◌<◌, length, arith, length-set, ◌∙◌}
use Rattle.tailbite.specs.Machine.{first_from}
use Rattle.tail_cert.proofs.Rows.{start_row, row_by_table, rows_more, no_rows}
use Rattle.tail_cert.proofs.filling.fill_table.Goals as goal

pub loop-k-init : goal.loop-k-init
loop-k-init c = (c.told-table, (λ y below. let r = c.requires.room y below in omega (arith, r)), start_row _ _ c.told-start c.requires.room, no_rows _ _ _)

pub step_on-row-requires-clause-small : goal.step_on-row-requires-clause-small
step_on-row-requires-clause-small c = (c.args.costs.now.costs.place c.loop-k.k c.loop-k-test.true).small

pub step_on-row-requires-clause-room : goal.step_on-row-requires-clause-room
step_on-row-requires-clause-room c y below = let r = c.loop-k.invariant.1 y below in omega (arith, r, c.loop-k-test.true)

pub loop-k-preserved : goal.loop-k-preserved
loop-k-preserved c =
    let known = c.loop-k.invariant in
    let e : c.loop-k.k + 1 ≡ suc c.loop-k.k = omega arith in
    let inside : c.loop-k.k < length c.loop-k.table = omega (arith, known.0, c.loop-k-test.true) in
    let later = row_by_table c.args.costs.now.values.now _ _ _ _ _ (c.args.costs.now.costs.place c.loop-k.k c.loop-k-test.true) known.2 c.step_on-row.ensures.size c.step_on-row.ensures.least c.step_on-row.ensures.growth in (
      length-set _ _ _ ∙ known.0,
      (λ y below.
          let grown = c.step_on-row.ensures.growth y below in
          let r = known.1 (first_from y) (omega arith) in
          omega (arith, grown, r)),
      rw e later,
      rw e (rows_more _ _ _ _ _ inside known.3 later),
    )

pub returns-clause-rows : goal.returns-clause-rows
returns-clause-rows c = let e : c.loop-k.k ≡ 40 = omega (arith, c.loop-k-test.false) in rw e at c.loop-k.invariant.3
