use Rattle.clean_air.proofs.HeldCells.{holds_cells}
use Rattle.clean_air.proofs.clean.OnePortCleanReader.holds_cells.Goals as goal

pub returns : goal.returns
returns c = holds_cells
