use Rattle.std.proofs.Common.{◌∙◌, List, [], ◌∷◌, ◌++◌, Bool, cond, filter, take, take_all, append_assoc, arith, ap, sym}
use Rattle.std.proofs.lemmas.List.Elements.{filter_more}
use Rattle.accumulated_pss.specs.Sums.{row_in}
use Rattle.accumulated_list.specs.declared.cell.DetectedCell.{DetectedCell}
use Rattle.accumulated_list.specs.Steps.{is_no_echo, without_echoes}
use Rattle.accumulated_list.proofs.echoes.add_listed.Goals as goal

pub loop-k-preserved : goal.loop-k-preserved
loop-k-preserved c =
    let cells : List DetectedCell = c.args.cells.now in
    let test : DetectedCell → Bool = is_no_echo (row_in c.args.sums.now c.args.n2) cells in
    let x : DetectedCell = c.index-cells-k.result in
    let before : List DetectedCell = filter test (take c.loop-k.k cells) in
    c.in_ok-add_unless_echo.ensures
    ∙ ap (λ (items : List DetectedCell). items ++ cond (test x) (x ∷ []) []) c.loop-k.invariant
    ∙ append_assoc c.args.list.now.items before (cond (test x) (x ∷ []) [])
    ∙ ap (λ (y : DetectedCell). c.args.list.now.items ++ (before ++ cond (test y) (y ∷ []) [])) c.index-cells-k.is
    ∙ ap (λ (ys : List DetectedCell). c.args.list.now.items ++ ys) (sym (filter_more test cells c.loop-k.k x c.loop-k-test.true))

pub returns : goal.returns
unfolding without_echoes
returns c =
    let cells : List DetectedCell = c.args.cells.now in
    let test : DetectedCell → Bool = is_no_echo (row_in c.args.sums.now c.args.n2) cells in
    c.loop-k.invariant
    ∙ ap (λ (xs : List DetectedCell). c.args.list.now.items ++ filter test xs) (take_all c.loop-k.k cells (omega arith))
