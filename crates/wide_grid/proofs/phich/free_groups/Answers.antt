use Rattle.std.proofs.Common.{◌≡◌, ◌*◌, ◌/◌, ◌∙◌, not, ap, refl, arith}
use Rattle.wide_grid.specs.Group.{group, is_group_in, span, symbol_groups}
use Rattle.wide_grid.specs.Control.{free_groups as free_groups_of}
use Rattle.wide_grid.proofs.Loops.{filter_step}
use Rattle.wide_grid.proofs.phich.free_groups.Goals as goal

pub loop-n-preserved : goal.loop-n-preserved
loop-n-preserved c =
    filter_step (λ g. not (is_group_in c.pcfich_groups-taken.result g)) (λ n. group c.args.symbol (span c.args.cell.now.ports c.args.symbol * n))
    c.loop-n.n c.loop-n.groups.items _ _ _ c.loop-n.invariant
    (ap (λ s. group c.args.symbol (s * c.loop-n.n)) c.span-span.ensures.value)
    (ap not c.is_taken.ensures)
    c.in_ok-add_group.ensures.items

pub returns : goal.returns
unfolding free_groups_of symbol_groups
returns c =
    let past = c.loop-n-test.false in
    let end = c.loop-n.auto.n-end in
    let last : c.loop-n.n ≡ c.subcarriers.result / c.span-span.result = omega (arith, past, end) in
    c.loop-n.invariant ∙ rw (last, c.subcarriers.ensures.value, c.span-span.ensures.value, c.pcfich_groups-taken.ensures.groups) refl
