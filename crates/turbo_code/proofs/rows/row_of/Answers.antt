use Rattle.turbo_code.specs.Table.{rows}
use Rattle.turbo_code.proofs.rows.row_of.Goals as goal

pub returns : goal.returns
unfolding rows
returns c = c.row_in.ensures
