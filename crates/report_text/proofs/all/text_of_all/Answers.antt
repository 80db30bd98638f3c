use Rattle.std.proofs.Common.{ap, ◌∙◌, map, string_bytes}
use Rattle.report_text.specs.Lines.{report_text}
use Rattle.report_text.proofs.all.text_of_all.Goals as goal

pub returns : goal.returns
returns c of are =
    c.text_of_ruled.ensures (λ carrier. report_text (of carrier)) (ap (map string_bytes) c.deref.ensures.value ∙ c.in_ok-texts.ensures ∙ ap (map report_text) are)
