use Rattle.grid_map.proofs.Carried.{group_inside, group_carries}
use Rattle.grid_map.proofs.candidate.quadruplets_carried.Goals as goal

pub returns-clause-inside : goal.returns-clause-inside
returns-clause-inside c = group_inside

pub returns-clause-carries : goal.returns-clause-carries
returns-clause-carries c = group_carries
