use Rattle.std.specs.Prelude.{◌+◌, ◌^◌}
use Rattle.std.proofs.Common.{sym, subst}
use Rattle.finite.specs.Sizes.{RowsWithin}
use Rattle.finite.proofs.Items.{row-within}
use Rattle.wide_block.specs.Sums.{plus}
use Rattle.wide_block.proofs.Entries.{three_rows, plus-within}
use Rattle.wide_block.proofs.table.plus.Goals as goal

pub row_sums-requires-3-clause-a : goal.row_sums-requires-3-clause-a
row_sums-requires-3-clause-a c = row-within (2 ^ 20) c.args.a.now 2 c.requires.a

pub row_sums-requires-3-clause-b : goal.row_sums-requires-3-clause-b
row_sums-requires-3-clause-b c = row-within (2 ^ 20) c.args.b.now 2 c.requires.b

pub returns-clause-value : goal.returns-clause-value
unfolding plus
returns-clause-value c = three_rows _ _ _ _ _ _ c.row_sums.ensures c.row_sums-2.ensures c.row_sums-3.ensures

pub returns-clause-magnitudes : goal.returns-clause-magnitudes
returns-clause-magnitudes c m n small small' =
    subst (RowsWithin (m + n)) (sym (returns-clause-value c)) (plus-within m n c.args.a.now c.args.b.now small small')
