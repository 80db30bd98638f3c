use Rattle.soft_bits.specs.Soft.{SeenSlot}
use Rattle.soft_bits.proofs.Magnitudes.{ports_energy-within}
use Rattle.soft_bits.proofs.slot.PortSlot.energy.Goals as goal

pub returns-clause-few : goal.returns-clause-few
returns-clause-few g c =
    let slot : SeenSlot = record { symbols = c.self.inside.symbols; number = c.self.inside.number; identity = c.self.inside.id } in
    let h = ports_energy-within g.K.Ports.pairing.carrier slot c.self.invariant.small in
    rw c.self.invariant.total h
