use Rattle.std.proofs.Common.{◌∙◌, ap}
use Rattle.grid_map.specs.declared.Place.{Place}
use Rattle.soft_bits.specs.Soft.{SeenSlot}
use Rattle.soft_bits.proofs.Channel.{one_slot}
use Rattle.soft_bits.proofs.read_slot.fill_slot.Goals as goal

pub returns-clause-values : goal.returns-clause-values
returns-clause-values g c =
    c.fill.ensures.values
    ∙ ap (λ (f : Place → SeenSlot). g.S.ReadSlot.values_by f c.args.places.now) (one_slot (g.S.ReadSlot.seen_as c.args.slot.now))
