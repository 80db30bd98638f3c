use Rattle.std.proofs.Common.{◌∙◌, ap}
use Rattle.std.proofs.lemmas.Result.{IfOk-weaker}
use Rattle.report_json.specs.Offset.{estimation_json}
use Rattle.report_json.proofs.offset.tell_json.Goals as goal

pub returns : goal.returns
returns c =
    let same = ap (estimation_json c.in_ok-estimation.estimation.estimate) (c.deref.ensures.value ∙ c.in_ok-estimation.ensures.candidates) in
    IfOk-weaker c.json_of.result _ _ (λ text is. record { estimate = c.in_ok-estimation.estimation.estimate; is_estimated = c.in_ok-estimation.ensures.estimate; is_text = is ∙ same })
    c.json_of.ensures
