use Rattle.std.proofs.Common.{◌∙◌, refl, ap}
use Rattle.soft_bits.specs.Pairs.{pair_values}
use Rattle.soft_bits.specs.Soft.{SeenSlot}
use Rattle.soft_bits.proofs.pairs.pair_at.Goals as goal

pub returns-clause-values : goal.returns-clause-values
unfolding pair_values
returns-clause-values g c =
    c.point_values.ensures.values
    ∙ rw (c.channel.ensures.value, c.channel-2.ensures.value, c.energy.ensures.value, c.seen.ensures.value, c.seen-2.ensures.value, c.pair-ports.ensures.lower, c.pair-ports.ensures.upper) refl
    ∙ ap (λ (s : SeenSlot). pair_values g.K.Ports.pairing c.args.i s c.args.p.now c.args.q.now) c.slot_of-slot.ensures
