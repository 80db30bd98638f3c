use Rattle.std.proofs.Common.{◌≡◌}
use Rattle.soft_bits.specs.Pairs.{valued_by}
use Rattle.pbch.specs.Values.{received_values_by}
use Rattle.evidence.proofs.PortByPort.{first_ports}
use Rattle.evidence.proofs.slot.shown_of.Given as goal

abbrev pub invariant-loop-port : goal.invariant-loop-port
invariant-loop-port g l =
    l.shown ≡ first_ports g.K.Ports.pairing.carrier l.slot (received_values_by (valued_by g.K.Ports.pairing) l.slot) l.port
