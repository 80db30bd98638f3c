use Rattle.waveform.proofs.NearCells.{near_cell_of_one_is_heard, near_cell_of_two_is_heard, near_cell_of_four_is_heard, near_cell_of_long_is_heard}
use Rattle.waveform.proofs.heard.cells_near_their_waveform_are_heard.Goals as goal

pub returns-clause-one_port : goal.returns-clause-one_port
returns-clause-one_port c = near_cell_of_one_is_heard

pub returns-clause-two_ports : goal.returns-clause-two_ports
returns-clause-two_ports c = near_cell_of_two_is_heard

pub returns-clause-four_ports : goal.returns-clause-four_ports
returns-clause-four_ports c = near_cell_of_four_is_heard

pub returns-clause-long_prefix : goal.returns-clause-long_prefix
returns-clause-long_prefix c = near_cell_of_long_is_heard
