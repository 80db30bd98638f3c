use Rattle.soft_bits.proofs.Fronts.{values_look_at_front}
use Rattle.soft_bits.proofs.read_slot.PortSlotReadSlot.looks_at_front.Goals as goal

pub returns : goal.returns
returns g c = values_look_at_front g.K.Ports.pairing.carrier g.K.Ports.pairing
