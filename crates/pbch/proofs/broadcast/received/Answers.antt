use Rattle.std.proofs.Common.{◌∙◌, ap}
use Rattle.grid_map.specs.declared.Place.{Place}
use Rattle.grid_map.specs.Broadcast.{pbch_places}
use Rattle.pbch.proofs.broadcast.received.Goals as goal

pub returns-clause-values : goal.returns-clause-values
returns-clause-values g c =
    c.new.ensures ∙ c.fill_slot.ensures.values
    ∙ ap (g.S.ReadSlot.values_by (λ (p : Place). g.S.ReadSlot.seen_as c.args.slot.now)) (c.pbch_places-places.ensures.places ∙ ap pbch_places c.cell.ensures)
