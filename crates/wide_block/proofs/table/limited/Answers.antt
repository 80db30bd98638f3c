use Rattle.std.specs.Prelude.{All}
use Rattle.turbo_dec.specs.Decoder.{IsSmall}
use Rattle.wide_block.specs.Sums.{limited}
use Rattle.wide_block.proofs.Entries.{three_rows, all_three}
use Rattle.wide_block.proofs.table.limited.Goals as goal

pub returns-clause-value : goal.returns-clause-value
unfolding limited
returns-clause-value c =
    three_rows _ _ _ _ _ _ c.limited_row.ensures.value c.limited_row-2.ensures.value c.limited_row-3.ensures.value

pub returns-clause-small : goal.returns-clause-small
returns-clause-small c =
    all_three (All IsSmall) c.limited_row.result c.limited_row-2.result c.limited_row-3.result
    c.limited_row.ensures.small c.limited_row-2.ensures.small c.limited_row-3.ensures.small
