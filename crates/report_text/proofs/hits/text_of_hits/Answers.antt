use Rattle.std.proofs.Common.{◌∙◌, ◌++◌, ap}
use Rattle.std.specs.List.{flat_map}
use Rattle.report_text.specs.Hits.{hit_line, hits_text}
use Rattle.report_text.proofs.hits.text_of_hits.Goals as goal

pub returns : goal.returns
unfolding hits_text
returns c = c.in_ok-add_lines.ensures ∙ ap (λ head. head ++ flat_map hit_line c.args.hits.now) c.in_ok-text.ensures.ok
