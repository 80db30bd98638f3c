use Rattle.std.proofs.Common.{◌∙◌, ◌++◌, ap}
use Rattle.std.specs.List.{flat_map}
use Rattle.report_text.specs.Evidence.{evidence_line, evidence_text}
use Rattle.report_text.proofs.supports.text_of_evidence.Goals as goal

pub returns : goal.returns
unfolding evidence_text
returns c = c.in_ok-add_lines.ensures ∙ ap (λ head. head ++ flat_map evidence_line c.args.list.now) c.in_ok-text.ensures.ok
