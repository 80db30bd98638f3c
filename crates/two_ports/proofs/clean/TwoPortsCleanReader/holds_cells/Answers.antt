use Rattle.two_ports.proofs.HeldCells.{holds_cells}
use Rattle.two_ports.proofs.clean.TwoPortsCleanReader.holds_cells.Goals as goal

pub returns : goal.returns
returns c = holds_cells
