use Rattle.two_ports.proofs.HeldCells.{faithful_cell_is_heard}
use Rattle.two_ports.proofs.clean.TwoPortsCleanReader.faithful_cells_are_heard.Goals as goal

pub returns : goal.returns
returns c = faithful_cell_is_heard
