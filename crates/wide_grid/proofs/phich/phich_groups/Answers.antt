use Rattle.std.proofs.Common.{◌≡◌, ◌∙◌, sym, refl, arith}
use Rattle.finite.proofs.Lists.{joined_below_none}
use Rattle.finite.specs.Lists.{values_below}
use Rattle.wide_grid.specs.Control.{phich_count as phich_count_of, phich_group as phich_group_of, phich_groups as phich_groups_of}
use Rattle.wide_grid.proofs.Loops.{joined_step}
use Rattle.wide_grid.proofs.phich.phich_groups.Goals as goal

pub loop-m-init : goal.loop-m-init
loop-m-init c =
    c.new-groups.ensures.items ∙ sym (joined_below_none (λ m. values_below 3 (phich_group_of c.args.cell.now m)))

pub loop-m-preserved : goal.loop-m-preserved
loop-m-preserved c =
    joined_step (λ m. values_below 3 (phich_group_of c.args.cell.now m)) c.loop-m.m c.loop-m.groups.items _ _
    c.loop-m.invariant refl c.in_ok-add_phich_groups.ensures.items

pub returns : goal.returns
unfolding phich_groups_of
returns c =
    let past = c.loop-m-test.false in
    let end = c.loop-m.auto.m-end in
    let size = c.phich_count-m-end.ensures.value in
    let last : c.loop-m.m ≡ phich_count_of c.args.cell.now = omega (arith, past, end, size) in
    record { groups = c.loop-m.invariant ∙ rw last refl }
