use Rattle.std.proofs.Common.{◌∙◌, ◌++◌, List, ℕ, ap, ap₂, length}
use Rattle.std.specs.List.{flat_map}
use Rattle.reason_report.specs.Text.{reason_line, reasons_head, reasons_text}
use Rattle.reason_report.proofs.text.text_of_reasons.Goals as goal

pub returns : goal.returns
unfolding reasons_text
returns c =
    c.in_ok-add_lines.ensures
    ∙ ap (λ (head : List ℕ). head ++ flat_map reason_line c.args.reasons.now)
    (c.in_ok-text.ensures ∙ ap₂ (λ (id : ℕ) (rule : List ℕ). reasons_head id rule (length c.args.reasons.now)) c.value.ensures.value c.rule_word.ensures)
