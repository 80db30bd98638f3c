use Rattle.four_ports.proofs.HeldCells.{holds_cells}
use Rattle.four_ports.proofs.clean.FourPortsCleanReader.holds_cells.Goals as goal

pub returns : goal.returns
returns c = holds_cells
