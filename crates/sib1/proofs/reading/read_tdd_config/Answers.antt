use Rattle.uper.proofs.Reading.{reads_bind, fails_bind}
use Rattle.uper.specs.Grammar.{if_present}
use Rattle.sib1.specs.Layout.{tdd_config}
use Rattle.uper.proofs.Steps.{exit, reads_done}
use Rattle.sib1.proofs.reading.read_tdd_config.Goals as goal

pub returns-in_err-assignment : goal.returns-in_err-assignment
unfolding if_present tdd_config
returns-in_err-assignment c = exit _ _ _ _ c.in_err-assignment.field-0.0 c.from_residual.ensures.1 (rw c.if-present.true (fails_bind _ _ _ _ (fails_bind _ _ _ _ c.in_err-assignment.ensures.reads)))

pub returns-in_err-patterns : goal.returns-in_err-patterns
unfolding if_present tdd_config
returns-in_err-patterns c = exit _ _ _ _ c.in_err-patterns.field-0.0 c.from_residual-in_err-patterns.ensures.1 (rw c.if-present.true (fails_bind _ _ _ _ (reads_bind _ _ _ _ _ _ c.in_ok-assignment.ensures.reads (fails_bind _ _ _ _ c.in_err-patterns.ensures.reads))))

pub returns-in_ok-patterns : goal.returns-in_ok-patterns
unfolding if_present tdd_config
returns-in_ok-patterns c = rw c.if-present.true (reads_bind _ _ _ _ _ _ (reads_bind _ _ _ _ _ _ c.in_ok-assignment.ensures.reads (reads_bind _ _ _ _ _ _ c.in_ok-patterns.ensures.reads (reads_done _ _))) (reads_done _ _))

pub returns-else-present : goal.returns-else-present
unfolding if_present tdd_config
returns-else-present c = rw c.if-present.false (reads_done _ _)
