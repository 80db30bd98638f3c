use Rattle.turbo_code.specs.Table.{rows, row}
use Rattle.turbo_code.proofs.TableFacts.{row_at}
use Rattle.published_conditions.proofs.conditions.row_at.Goals as goal

pub returns : goal.returns
unfolding rows
returns c = row_at rows c.args.n (row 0 0 0) c.requires
