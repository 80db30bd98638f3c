use Rattle.std.proofs.Common.{◌≡◌, ◌*◌, ◌&&◌, ◌∙◌, true, not, nat_lt, length, ap, refl, arith}
use Rattle.std.proofs.lemmas.List.Elements.{All-same}
use Rattle.wide_grid.specs.declared.group.WideReg.{WideReg}
use Rattle.wide_grid.specs.Group.{is_group, is_group_in, region}
use Rattle.wide_grid.specs.Control.{numbered as numbered_of, pdcch_groups as pdcch_groups_of}
use Rattle.wide_grid.proofs.Loops.{filter_step}
use Rattle.wide_grid.proofs.Carried.{pdcch_valid, pdcch_few}
use Rattle.wide_grid.proofs.pdcch.pdcch_groups.Goals as goal

pub loop-n-preserved : goal.loop-n-preserved
loop-n-preserved c =
    filter_step (λ g. is_group c.args.cell.now g && nat_lt g.symbol (region c.args.cell.now c.args.cfi)
    && (not (is_group_in c.pcfich_groups-pcfich.result g) && not (is_group_in c.in_ok-phich.phich.items g))) numbered_of
    c.loop-n.n c.loop-n.groups.items _ _ _ c.loop-n.invariant c.numbered-group.ensures.value
    (rw c.deref.ensures.value at c.is_pdcch.ensures)
    c.in_ok-add_group.ensures.items

pub returns-clause-groups : goal.returns-clause-groups
unfolding pdcch_groups_of
returns-clause-groups c =
    let past = c.loop-n-test.false in
    let end = c.loop-n.auto.n-end in
    let size = c.subcarriers-n-end.ensures.value in
    let last : c.loop-n.n ≡ 4 * (12 * c.args.cell.now.blocks) = omega (arith, past, end, size) in
    c.loop-n.invariant ∙ rw (last, c.pcfich_groups-pcfich.ensures.groups, c.in_ok-phich.ensures.groups) refl

pub returns-clause-valid : goal.returns-clause-valid
returns-clause-valid c =
    All-same (λ (g : WideReg). is_group c.args.cell.now g ≡ true) _ _ (returns-clause-groups c) (pdcch_valid c.args.cell.now c.args.cfi)

pub returns-clause-few : goal.returns-clause-few
returns-clause-few c =
    let size = c.subcarriers-n-end.ensures.value in
    let most = c.subcarriers-n-end.ensures.bounds.1 in
    let few = pdcch_few c.args.cell.now c.args.cfi in
    let same = ap length (returns-clause-groups c) in
    omega (arith, size, most, few, same)
