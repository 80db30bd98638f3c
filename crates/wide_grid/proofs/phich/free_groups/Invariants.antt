use Rattle.std.proofs.Common.{◌≡◌, ◌*◌, not, filter}
use Rattle.finite.specs.Lists.{values_below}
use Rattle.wide_grid.specs.Group.{group, is_group_in, span as span_of}
use Rattle.wide_grid.proofs.phich.free_groups.Given as goal

abbrev pub invariant-loop-n : goal.invariant-loop-n
invariant-loop-n l =
    l.groups.items ≡ filter (λ g. not (is_group_in l.taken g))
    (values_below l.n (λ n. group l.symbol (span_of l.cell.ports l.symbol * n)))
