use Rattle.std.proofs.Common.{◌∙◌, ◌++◌, List, ℕ, ap}
use Rattle.std.specs.List.{flat_map}
use Rattle.accumulated_report.specs.Text.{cell_line, accumulated_text}
use Rattle.accumulated_report.proofs.text.text_of_accumulated.Goals as goal

pub returns : goal.returns
unfolding accumulated_text
returns c = c.in_ok-add_lines.ensures ∙ ap (λ (head : List ℕ). head ++ flat_map cell_line c.args.cells.now) c.in_ok-text.ensures
