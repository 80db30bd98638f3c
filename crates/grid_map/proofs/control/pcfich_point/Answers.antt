use Rattle.std.proofs.Common.{◌/◌, ◌%◌, ◌∙◌, get_or, ap, sym}
use Rattle.grid_map.specs.Place.{place}
use Rattle.grid_map.specs.Group.{group, group_places}
use Rattle.grid_map.proofs.Pieces.{pcfich_place_at}
use Rattle.grid_map.proofs.control.pcfich_point.Goals as goal

pub returns-clause-place : goal.returns-clause-place
returns-clause-place c =
    ap (λ places. get_or places (c.args.i % 4) (place 0 0)) c.reg_places.ensures.places
    ∙ ap (λ groups. get_or (group_places c.args.id (get_or groups (c.args.i / 4) (group 0 0))) (c.args.i % 4) (place 0 0)) c.requires.groups
    ∙ sym (pcfich_place_at c.args.id c.args.i c.requires.i)
