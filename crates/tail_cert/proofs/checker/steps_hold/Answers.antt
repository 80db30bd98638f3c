use Rattle.std.proofs.Common.{refl, arith}
use Rattle.tail_cert.proofs.Tables.{holds_more, row_first, row_next, steps_by_table}
use Rattle.tail_cert.proofs.checker.steps_hold.Goals as goal

pub loop-i-init : goal.loop-i-init
loop-i-init c = (row_first _ _, λ i below. absurd (omega (arith, below)))

pub returns-then-not-row_holds : goal.returns-then-not-row_holds
returns-then-not-row_holds c = (
  (λ t. cc),
  λ holds. c.if-not-row_holds.ensures.1 (rw c.loop-i.invariant.0
      ((steps_by_table c.args.costs.now.values.now c.args.costs.now.steps.now c.args.first.now c.args.table.now c.args.costs.now.costs).1 holds c.loop-i.i c.loop-i-test.true)),
)

pub loop-i-preserved : goal.loop-i-preserved
loop-i-preserved c = (
  row_next c.args.first.now c.args.table.now c.loop-i.i,
  holds_more c.args.costs.now.steps.now c.args.first.now c.args.table.now c.loop-i.from.now c.loop-i.i c.loop-i.invariant.0 (c.if-not-row_holds.ensures.0 refl) c.loop-i.invariant.1,
)

pub returns : goal.returns
returns c = (
  (λ t. (steps_by_table c.args.costs.now.values.now c.args.costs.now.steps.now c.args.first.now c.args.table.now c.args.costs.now.costs).0
      (λ i below. c.loop-i.invariant.1 i (omega (arith, below, c.loop-i-test.false)))),
  λ holds. refl,
)
