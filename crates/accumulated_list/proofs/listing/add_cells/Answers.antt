use Rattle.std.proofs.Common.{◌∙◌, ℕ, List, ◌++◌, ap₂}
use Rattle.accumulated_list.specs.declared.cell.DetectedCell.{DetectedCell}
use Rattle.accumulated_list.specs.Steps.{without_echoes}
use Rattle.accumulated_list.proofs.SumsInRows.{row_is}
use Rattle.accumulated_list.proofs.listing.add_cells.Goals as goal

pub returns : goal.returns
returns c =
    c.in_ok-add_listed.ensures
    ∙ ap₂ (λ (row : List ℕ) (cells : List DetectedCell). c.args.list.now.items ++ without_echoes row cells)
    (row_is c.args.recording.now c.args.halves c.args.sums.now c.requires.sums c.args.n2 c.requires.member)
    (c.deref.ensures.value ∙ c.in_ok-cells.ensures.cells)
