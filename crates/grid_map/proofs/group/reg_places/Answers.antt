use Rattle.std.proofs.Common.{◌≡◌, ◌<◌}
use Rattle.std.proofs.lemmas.List.Elements.{All-same}
use Rattle.grid_map.specs.declared.Place.{Place}
use Rattle.grid_map.proofs.Spans.{group_places-four, all_inside}
use Rattle.grid_map.proofs.group.reg_places.Goals as goal

pub returns-clause-places : goal.returns-clause-places
returns-clause-places c = let places = group_places-four c.args.id c.args.reg c.requires in cc

pub returns-clause-inside : goal.returns-clause-inside
returns-clause-inside c =
    All-same (λ (p : Place). (p.symbol ≡ c.args.reg.symbol) × (p.k < 72)) _ _ (returns-clause-places c) (all_inside c.args.id c.args.reg c.requires)
