use Rattle.std.proofs.Common.{append_assoc}
use Rattle.report_text.proofs.answers.line_of_answer.Goals as goal

pub returns-then-answer : goal.returns-then-answer
returns-then-answer c = rw c.if-answer.true (simp append_assoc c.format.ensures.ok)

pub returns-else-answer : goal.returns-else-answer
returns-else-answer c = rw c.if-answer.false (simp append_assoc c.format-else-answer.ensures.ok)
