use Rattle.std.proofs.Common.{◌*◌, ◌<◌, ◌∙◌, not, length, length-append, ap, arith}
use Rattle.std.proofs.lemmas.List.Elements.{All-same, All-append}
use Rattle.wide_cell.specs.declared.place.WidePlace.{WidePlace}
use Rattle.wide_grid.specs.Group.{group_places}
use Rattle.wide_grid.proofs.Groups.{span_more, span_all, group_inside, group_four}
use Rattle.wide_grid.proofs.group.add_group_places.Goals as goal

pub loop-k-preserved : goal.loop-k-preserved
loop-k-preserved c =
    span_more c.args.cell.now c.args.group.symbol c.args.group.first c.loop-k.k c.args.places.now.items c.loop-k.places.items _ _
    c.loop-k.auto.k c.loop-k.invariant (ap not c.is_reserved.ensures) c.in_ok-add_place.ensures.items

pub returns-clause-items : goal.returns-clause-items
returns-clause-items c =
    let value = c.span.ensures.value in
    let past = c.loop-k-test.false in
    let end = c.loop-k.auto.k-end (omega arith) in
    span_all c.args.cell.now c.args.group c.loop-k.k c.args.places.now.items c.loop-k.places.items
    ((omega (arith, past, end)) ∙ value) c.loop-k.invariant

pub returns-clause-inside : goal.returns-clause-inside
returns-clause-inside c = λ before.
    let inside = λ (p : WidePlace). (p.symbol < 14) × (p.k < 12 * c.args.cell.now.blocks) in
    All-same inside _ _ (returns-clause-items c)
    (All-append inside c.args.places.now.items (group_places c.args.cell.now c.args.group) before
    (group_inside c.args.cell.now c.args.group c.requires.group))

pub returns-clause-count : goal.returns-clause-count
returns-clause-count c =
    let all = ap length (returns-clause-items c) in
    let sum = length-append c.args.places.now.items (group_places c.args.cell.now c.args.group) in
    let four = group_four c.args.cell.now c.args.group c.requires.group in
    omega (arith, all, sum, four)
