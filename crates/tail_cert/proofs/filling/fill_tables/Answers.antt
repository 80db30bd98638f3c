use Rattle.std.proofs.Common.{sym, ◌∙◌, arith}
use Rattle.tail_cert.proofs.Filled.{with_table, without, filled_none}
use Rattle.tail_cert.proofs.filling.fill_tables.Goals as goal
use Rattle.tail_cert.proofs.filling.fill_tables.Goals.{then-has, else-has}

pub loop-s-init : goal.loop-s-init
loop-s-init c = filled_none _ _ _ c.requires.tables

pub loop-s-preserved : goal.loop-s-preserved
loop-s-preserved c = elim c.if-has.branch [
  | then-has w ↦
      rw w.tables-is (with_table _ _ _ _ _ c.loop-s.invariant c.loop-s-test.true (sym c.has.ensures ∙ w.if-has.true) w.fill_start.ensures.whole w.fill_start.ensures.bounds)
  | else-has w ↦ rw w.tables-is (without _ _ _ _ c.loop-s.invariant (sym c.has.ensures ∙ w.if-has.false))
]

pub returns-clause-bounds : goal.returns-clause-bounds
returns-clause-bounds c = λ s below. c.loop-s.invariant.bounds s (omega (arith, below, c.loop-s-test.false))
