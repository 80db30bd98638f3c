use Rattle.wide_block.proofs.FoundRows.{rows_are_found}
use Rattle.wide_block.proofs.GivenSizes.{large_is_over_1000}
use Rattle.wide_block.proofs.laws.blocks_have_rows.Goals as goal

pub returns-clause-rows : goal.returns-clause-rows
returns-clause-rows c = rows_are_found

pub returns-clause-large : goal.returns-clause-large
returns-clause-large c = large_is_over_1000
