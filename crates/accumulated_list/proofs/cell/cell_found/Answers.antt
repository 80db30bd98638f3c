use Rattle.std.proofs.Common.{◌∙◌, ◌*◌, ◌≤◌, ℕ, Some, ap, sym, subst}
use Rattle.std.specs.Prelude.{option_map}
use Rattle.accumulated_pss.specs.Sums.{one}
use Rattle.accumulated_list.specs.Cells.{cell_with, cell_at}
use Rattle.accumulated_list.specs.Steps.{cell_found}
use Rattle.accumulated_list.proofs.SumsInRows.{sum_is, sum_within}
use Rattle.accumulated_list.proofs.cell.cell_found.Goals as goal

pub cell_with-requires-clause-sum : goal.cell_with-requires-clause-sum
cell_with-requires-clause-sum c =
    subst (λ (n : ℕ). n ≤ c.args.halves * one) (sym c.sum.ensures)
    (sum_within c.args.recording.now c.args.halves c.args.sums.now c.requires.sums c.args.n2 c.requires.member c.args.t c.requires.position)

pub returns-in-Some : goal.returns-in-Some
unfolding cell_found
returns-in-Some c =
    let recording = c.args.recording.now in
    let sum = c.sum.ensures ∙ sum_is recording c.args.halves c.args.sums.now c.requires.sums c.args.n2 c.requires.member c.args.t c.requires.position in
    ap Some (c.cell_with.ensures ∙ ap (λ (s : ℕ). cell_with c.args.halves c.args.n2 c.args.t s c.in-Some.found) sum)
    ∙ ap (option_map (cell_at recording c.args.halves c.args.n2 c.args.t)) c.in-Some.ensures.value

pub returns-in-None : goal.returns-in-None
unfolding cell_found
returns-in-None c = ap (option_map (cell_at c.args.recording.now c.args.halves c.args.n2 c.args.t)) c.in-None.ensures.value
