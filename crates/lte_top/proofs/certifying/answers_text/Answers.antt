use Rattle.std.proofs.Common.{◌∙◌, ap}
use Rattle.std.proofs.lemmas.Result.{err_from_is_err_and}
use Rattle.report_text.specs.Answers.{check_text}
use Rattle.lte_top.proofs.Checked.{output_of_answers, stream_cause}
use Rattle.lte_top.proofs.certifying.answers_text.Goals as goal

pub returns-clause-ok : goal.returns-clause-ok
returns-clause-ok g c = output_of_answers _ _ _ _ c.in_ok-answers.ensures.ok (c.in_ok-text.ensures ∙ ap check_text c.deref.ensures.value)

pub returns-in_err-answers-clause-err : goal.returns-in_err-answers-clause-err
returns-in_err-answers-clause-err g c =
    let p = err_from_is_err_and c.from_residual.result c.from_residual.ensures.1 in
    rw (p.1, p.2) (stream_cause _ _ _ c.in_err-answers.ensures.err)
