use Rattle.std.proofs.Common.{◌≡◌, ◌∙◌, true, length, refl, arith}
use Rattle.std.proofs.lemmas.List.Elements.{All-same}
use Rattle.wide_grid.specs.declared.group.WideReg.{WideReg}
use Rattle.wide_grid.specs.Group.{is_group}
use Rattle.wide_grid.specs.Control.{quadruplet_group as quadruplet_group_of, quadruplet_groups as quadruplet_groups_of}
use Rattle.wide_grid.proofs.Loops.{values_step}
use Rattle.wide_grid.proofs.Carried.{ordered_valid}
use Rattle.wide_grid.proofs.pdcch.quadruplet_groups.Goals as goal

pub loop-q-preserved : goal.loop-q-preserved
loop-q-preserved c =
    values_step (quadruplet_group_of c.args.cell.now c.args.groups.now) c.loop-q.q c.loop-q.ordered.items _ _
    c.loop-q.invariant c.quadruplet_group.ensures c.in_ok-push.ensures.items

pub returns-clause-groups : goal.returns-clause-groups
unfolding quadruplet_groups_of
returns-clause-groups c =
    let past = c.loop-q-test.false in
    let end = c.loop-q.auto.q-end in
    let last : c.loop-q.q ≡ length c.args.groups.now = omega (arith, past, end) in
    c.loop-q.invariant ∙ rw last refl

pub returns-clause-valid : goal.returns-clause-valid
returns-clause-valid c =
    All-same (λ (g : WideReg). is_group c.args.cell.now g ≡ true) _ _ (returns-clause-groups c)
    (ordered_valid c.args.cell.now c.args.groups.now c.requires.valid)
