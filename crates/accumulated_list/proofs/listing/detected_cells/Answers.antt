use Rattle.std.proofs.Common.{◌∙◌, ◌<◌, ℕ, List, [], ◌++◌, Option, length, take_all, arith, ap, ap₂, sym, subst}
use Rattle.std.specs.List.{All, filter_map, cons_option}
use Rattle.accumulated_pss.specs.Sums.{IsPosition}
use Rattle.accumulated_pss.specs.Maxima.{candidates}
use Rattle.accumulated_list.specs.declared.cell.DetectedCell.{DetectedCell}
use Rattle.accumulated_list.specs.Steps.{cell_found, detected_cells}
use Rattle.accumulated_list.proofs.Found.{detected_positions}
use Rattle.accumulated_list.proofs.Gathered.{gathered_more}
use Rattle.accumulated_list.proofs.SumsInRows.{row_is}
use Rattle.accumulated_list.proofs.listing.detected_cells.Goals as goal

pub loop-k-preserved : goal.loop-k-preserved
loop-k-preserved c =
    let found : ℕ → Option DetectedCell = cell_found c.args.recording.now c.args.halves c.args.n2 in
    let positions : List ℕ = c.in_ok-positions.positions.items in
    let t : ℕ = c.index.result.now in
    let inside : c.loop-k.k < length positions = omega (arith, c.loop-k-test.true, c.len-k-end.ensures) in
    c.in_ok-add.ensures
    ∙ ap₂ (λ (before : List DetectedCell) (o : Option DetectedCell). before ++ cons_option o []) c.loop-k.invariant
    (c.cell_found.ensures ∙ ap found c.index.ensures)
    ∙ sym (gathered_more found positions c.loop-k.k t inside)

pub returns-clause-cells : goal.returns-clause-cells
unfolding detected_cells
returns-clause-cells c =
    let positions : List ℕ = c.in_ok-positions.positions.items in
    c.loop-k.invariant
    ∙ ap (filter_map (cell_found c.args.recording.now c.args.halves c.args.n2))
    (take_all c.loop-k.k positions (omega (arith, c.loop-k-test.false, c.len-k-end.ensures)) ∙ c.in_ok-positions.ensures.list
    ∙ ap candidates (row_is c.args.recording.now c.args.halves c.args.sums.now c.requires.sums c.args.n2 c.requires.member))

pub returns-clause-positions : goal.returns-clause-positions
returns-clause-positions c =
    subst (All (λ cell. IsPosition cell.position)) (sym (returns-clause-cells c))
    (detected_positions c.args.recording.now c.args.halves c.args.n2 c.requires.member)
