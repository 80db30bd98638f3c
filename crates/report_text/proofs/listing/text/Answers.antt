use Rattle.std.proofs.Common.{◌∙◌, ◌++◌, ap}
use Rattle.std.specs.List.{flat_map}
use Rattle.report_text.specs.Lines.{entry_lines, report_text}
use Rattle.report_text.proofs.listing.text.Goals as goal

pub returns : goal.returns
unfolding report_text
returns c = c.in_ok-add_lines.ensures ∙ ap (λ head. head ++ flat_map entry_lines c.args.entries.now) c.in_ok-text.ensures.ok
