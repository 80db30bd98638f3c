use Rattle.grid_map.proofs.Quadruplets.{quadruplet_inside, quadruplet_once, quadruplet_each}
use Rattle.grid_map.proofs.interleaver.quadruplets_permute.Goals as goal

pub returns-clause-inside : goal.returns-clause-inside
returns-clause-inside c = quadruplet_inside

pub returns-clause-one_to_one : goal.returns-clause-one_to_one
returns-clause-one_to_one c = quadruplet_once

pub returns-clause-each : goal.returns-clause-each
returns-clause-each c = quadruplet_each
