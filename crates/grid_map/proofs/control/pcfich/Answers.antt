use Rattle.std.proofs.Common.{◌≡◌, true}
use Rattle.std.proofs.lemmas.List.Elements.{All-same}
use Rattle.grid_map.specs.declared.Reg.{Reg}
use Rattle.grid_map.specs.Group.{is_group}
use Rattle.grid_map.proofs.Regions.{pcfich_inside}
use Rattle.grid_map.specs.Control.{pcfich_groups}
use Rattle.grid_map.proofs.control.pcfich.Goals as goal

pub returns-clause-groups : goal.returns-clause-groups
unfolding pcfich_groups
returns-clause-groups c = cc

pub returns-clause-inside : goal.returns-clause-inside
returns-clause-inside c = All-same (λ (g : Reg). (is_group g ≡ true) × (g.symbol ≡ 0)) _ _ (returns-clause-groups c) (pcfich_inside c.args.id)
