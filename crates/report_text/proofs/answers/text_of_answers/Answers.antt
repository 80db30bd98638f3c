use Rattle.std.proofs.Common.{append_assoc, ◌∙◌}
use Rattle.report_text.proofs.AnswerLines.{lines_none, lines_more, lines_all}
use Rattle.report_text.proofs.answers.text_of_answers.Goals as goal

pub loop-number-init : goal.loop-number-init
loop-number-init c = lines_none _ _ (simp append_assoc c.in_ok-text.ensures.ok)

pub loop-number-preserved : goal.loop-number-preserved
loop-number-preserved c = rw c.in_ok-push_str.ensures.bytes (lines_more _ _ _ _ _ _ c.loop-number-test.true c.loop-number.invariant (c.deref.ensures ∙ c.in_ok-line.ensures))

pub returns : goal.returns
returns c = lines_all _ _ _ _ c.loop-number-test.false c.loop-number.invariant
