use Rattle.std.proofs.Common.{refl}
use Rattle.grid_map.proofs.BlockPlaces.{are_few}
use Rattle.grid_map.proofs.shared.block_places_are.Goals as goal

pub returns-clause-one_port : goal.returns-clause-one_port
returns-clause-one_port c cfi = refl

pub returns-clause-two_ports : goal.returns-clause-two_ports
returns-clause-two_ports c cfi = refl

pub returns-clause-long_prefix : goal.returns-clause-long_prefix
returns-clause-long_prefix c cfi = refl

pub returns-clause-four_ports : goal.returns-clause-four_ports
returns-clause-four_ports c cfi = refl

pub returns-clause-least : goal.returns-clause-least
returns-clause-least c carrier cfi = (are_few carrier cfi).least

pub returns-clause-most : goal.returns-clause-most
returns-clause-most c carrier cfi = (are_few carrier cfi).most
