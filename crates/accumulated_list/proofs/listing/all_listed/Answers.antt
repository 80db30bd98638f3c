use Rattle.std.proofs.Common.{◌∙◌, List, ◌++◌, append_assoc, ap}
use Rattle.accumulated_list.specs.declared.cell.DetectedCell.{DetectedCell}
use Rattle.accumulated_list.specs.Steps.{listed_cells}
use Rattle.accumulated_list.proofs.listing.all_listed.Goals as goal

pub returns : goal.returns
returns c =
    let recording = c.args.recording.now in
    let halves = c.args.halves in
    c.in_ok-add_cells-3.ensures
    ∙ ap (λ (xs : List DetectedCell). xs ++ listed_cells recording halves 2) (c.in_ok-add_cells-2.ensures
    ∙ ap (λ (xs : List DetectedCell). xs ++ listed_cells recording halves 1) (c.in_ok-add_cells.ensures
    ∙ ap (λ (xs : List DetectedCell). xs ++ listed_cells recording halves 0) c.new-list.ensures.items))
    ∙ append_assoc (listed_cells recording halves 0) (listed_cells recording halves 1) (listed_cells recording halves 2)
