-- The receivers by transmission scheme. (own)
use Rattle.lte_types.specs.declared.carrier.Carrier.{Carrier}
use Rattle.lte_types.specs.declared.carrier.Carrier.TheVariants.{OnePort, TwoPorts, LongPrefix, FourPorts}
use Rattle.explain.specs.Receiver.{Receiver, one_port_receiver}
use Rattle.two_ports.specs.Entries.{two_ports_receiver}
use Rattle.long_prefix.specs.Entries.{long_prefix_receiver}
use Rattle.four_ports.specs.Entries.{four_ports_receiver}

-- the receiver for the cells of a transmission scheme
abbrev pub receiver_of : Carrier → Receiver
receiver_of OnePort = one_port_receiver
receiver_of TwoPorts = two_ports_receiver
receiver_of LongPrefix = long_prefix_receiver
receiver_of FourPorts = four_ports_receiver
