use Rattle.std.proofs.Common.{◌+◌, ◌*◌, length, sym, subst, arith}
use Rattle.finite.specs.Sizes.{RowsWithin}
use Rattle.conv_code.specs.Reading.{item_of}
use Rattle.conv_code.proofs.Magnitudes.{sizes_by_count}
use Rattle.conv_code.proofs.ByIndex.{indexed_are_summed}
use Rattle.conv_code.proofs.matching.combine_from.Goals as goal

pub by_index-requires : goal.by_index-requires
by_index-requires g c = (
  omega arith,
  (omega arith, (omega arith, (c.requires.high, λ t p h below. let room = c.by_place.ensures.room t p h below in omega (arith, room, c.requires.count)))),
)

pub returns-clause-sums : goal.returns-clause-sums
returns-clause-sums g c =
    indexed_are_summed g.row.N c.args.first c.args.values.now c.by_place.result c.by_index.result c.requires.low c.requires.high c.by_place.ensures
    (record { size = c.by_index.ensures.count; rows = c.by_index.ensures.rows; each = c.by_index.ensures.sums })

pub returns-clause-magnitudes : goal.returns-clause-magnitudes
returns-clause-magnitudes g c bound small =
    subst (λ table. RowsWithin (length c.args.values.now * bound) table) (sym (returns-clause-sums g c))
    (sizes_by_count (λ i. item_of g.row.N (c.args.first + i)) g.row.N c.args.values.now bound small)
