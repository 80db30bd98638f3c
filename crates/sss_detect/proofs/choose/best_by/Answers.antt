use Rattle.std.proofs.Common.{rules, FitsSigned, int_lt, ◌∙◌, ap, sym}
use Rattle.std.specs.Int.{w128}
use Rattle.std.proofs.lemmas.Int.{to_z-of_z}
use Rattle.lte_types.specs.declared.frame.Half.TheVariants.{Five}
use Rattle.sss_detect.specs.Steps.{score_by}
use Rattle.sss_detect.proofs.Choices.{five_chosen, zero_chosen}
use Rattle.sss_detect.proofs.choose.best_by.Goals as goal

pub best_of_half-zero-requires : goal.best_of_half-zero-requires
best_of_half-zero-requires c = rw c.new-sums.ensures.agreements c.requires.small

pub best_of_half-five-requires : goal.best_of_half-five-requires
best_of_half-five-requires c = rw c.new-sums.ensures.agreements c.requires.small

pub returns-then-zero-five : goal.returns-then-zero-five
returns-then-zero-five c =
    let first = c.best_of_half-zero in
    let second = c.best_of_half-five in
    let a : FitsSigned w128 first.result.score = search rules in
    let b : FitsSigned w128 second.result.score = search rules in
    let test = simp to_z-of_z at c.if-zero-five.true in
    let scores = score_by c.new-sums.result.agreements.now c.new-sums.result.n2 in
    rw (← c.new-sums.ensures.agreements, ← c.new-sums.ensures.member) (five_chosen scores first.result.n1 second.result.n1 first.ensures.group second.ensures.group
    (ap (λ x. int_lt x (scores second.result.n1 Five)) (sym first.ensures.score) ∙ ap (int_lt first.result.score) (sym second.ensures.score) ∙ test))

pub returns-else-zero-five : goal.returns-else-zero-five
returns-else-zero-five c =
    let first = c.best_of_half-zero in
    let second = c.best_of_half-five in
    let a : FitsSigned w128 first.result.score = search rules in
    let b : FitsSigned w128 second.result.score = search rules in
    let test = simp to_z-of_z at c.if-zero-five.false in
    let scores = score_by c.new-sums.result.agreements.now c.new-sums.result.n2 in
    rw (← c.new-sums.ensures.agreements, ← c.new-sums.ensures.member) (zero_chosen scores first.result.n1 second.result.n1 first.ensures.group second.ensures.group
    (ap (λ x. int_lt x (scores second.result.n1 Five)) (sym first.ensures.score) ∙ ap (int_lt first.result.score) (sym second.ensures.score) ∙ test))
