use Rattle.std.proofs.Common.{sym, subst, ◌∙◌, ◌*◌}
use Rattle.finite.specs.Sizes.{RowsWithin}
use Rattle.conv_code.proofs.Magnitudes.{sizes_of_sums}
use Rattle.conv_code.proofs.Sums.{from_first}
use Rattle.conv_code.proofs.matching.combine.Goals as goal

pub returns-clause-sums : goal.returns-clause-sums
returns-clause-sums g c = c.combine_from.ensures.sums ∙ from_first g.row.N c.args.values.now

pub returns-clause-magnitudes : goal.returns-clause-magnitudes
returns-clause-magnitudes g c bound rounds small few =
    let sums = c.combine_from.ensures.sums ∙ from_first g.row.N c.args.values.now in
    subst (λ table. RowsWithin (rounds * bound) table) (sym sums)
    (sizes_of_sums g.row.N c.args.values.now bound rounds c.requires.low c.requires.high small few)
