use Rattle.turbo_code.specs.Table.{further_rows}
use Rattle.turbo_code.proofs.rows.further_row_of.Goals as goal

pub returns : goal.returns
unfolding further_rows
returns c = c.row_in.ensures
