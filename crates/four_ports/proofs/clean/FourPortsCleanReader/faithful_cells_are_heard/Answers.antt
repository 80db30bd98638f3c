use Rattle.four_ports.proofs.HeldCells.{faithful_cell_is_heard}
use Rattle.four_ports.proofs.clean.FourPortsCleanReader.faithful_cells_are_heard.Goals as goal

pub returns : goal.returns
returns c = faithful_cell_is_heard
