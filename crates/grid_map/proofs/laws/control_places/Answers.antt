use Rattle.grid_map.proofs.Indexed.{pcfich_indexed, candidate_indexed, pdcch_carry}
use Rattle.grid_map.proofs.laws.control_places.Goals as goal

pub returns-clause-pcfich : goal.returns-clause-pcfich
returns-clause-pcfich c = pcfich_indexed

pub returns-clause-candidate : goal.returns-clause-candidate
returns-clause-candidate c = candidate_indexed

pub returns-clause-groups : goal.returns-clause-groups
returns-clause-groups c = pdcch_carry
