use Rattle.std.proofs.Common.{◌≡◌, ◌&&◌, not, nat_lt, filter}
use Rattle.finite.specs.Lists.{values_below}
use Rattle.wide_grid.specs.Group.{is_group, is_group_in, region}
use Rattle.wide_grid.specs.Control.{numbered as numbered_of}
use Rattle.wide_grid.proofs.pdcch.pdcch_groups.Given as goal

abbrev pub invariant-loop-n : goal.invariant-loop-n
invariant-loop-n l =
    l.groups.items ≡ filter (λ g. is_group l.cell g && nat_lt g.symbol (region l.cell l.cfi)
    && (not (is_group_in l.pcfich g) && not (is_group_in l.phich.items g))) (values_below l.n numbered_of)
