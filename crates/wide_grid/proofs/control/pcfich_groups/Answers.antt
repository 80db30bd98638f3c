use Rattle.wide_grid.specs.Control.{pcfich_groups as pcfich_groups_of}
use Rattle.wide_grid.proofs.control.pcfich_groups.Goals as goal

pub returns-clause-groups : goal.returns-clause-groups
unfolding pcfich_groups_of
returns-clause-groups c = cc
