use Rattle.std.proofs.Common.{◌∙◌, ◌++◌, ap}
use Rattle.std.specs.List.{flat_map}
use Rattle.report_text.specs.Hits.{id_line, ids_text}
use Rattle.report_text.proofs.hits.text_of_ids.Goals as goal

pub returns : goal.returns
unfolding ids_text
returns c = c.in_ok-add_lines.ensures ∙ ap (λ head. head ++ flat_map id_line c.args.hits.now) c.in_ok-text.ensures.ok
