use Rattle.clean_air.proofs.HeldCells.{faithful_cell_is_heard}
use Rattle.clean_air.proofs.clean.OnePortCleanReader.faithful_cells_are_heard.Goals as goal

pub returns : goal.returns
returns c = faithful_cell_is_heard
