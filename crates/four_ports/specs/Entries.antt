-- A recording's list of cells with four antenna ports, decoded by transmit diversity pairs up to the MIB. (own)
use Rattle.std.specs.Prelude.{List, Some, Err}
use Rattle.cs_num.specs.declared.Sample.{Sample}
use Rattle.lte_types.specs.declared.carrier.Carrier.TheVariants.{FourPorts}
use Rattle.lte_types.specs.declared.sib1_reason.Sib1Reason.TheVariants.{NotOnePort}
use Rattle.lte_types.specs.declared.entry.Entry.{Entry}
use Rattle.soft_bits.specs.Pairs.{over_four, paired_by}
use Rattle.explain.specs.Receiver.{Receiver, broadcast_by}
use Rattle.explain.specs.Entries.{IsListFor}
use Rattle.explain.specs.declared.readings.Reading.{Reading}
use Rattle.explain.specs.Readings.{IsReadingFor}

-- the receiver for four antenna ports: it decodes transmit diversity pairs, accepts only MIBs with four antenna ports,
-- whose CRC has the mask 5555 (hexadecimal; TS 36.212 section 5.3.1.1), and does not read subframe 5
abbrev pub four_ports_receiver : Receiver
four_ports_receiver = record {
  carrier = FourPorts;
  count = 480;
  broadcast = broadcast_by (paired_by over_four);
  most_frames = 4;
  ports = Some 4;
  subframe = Err (NotOnePort 4);
}

-- a recording's list of cells with four antenna ports
abbrev pub IsExplainedOfFour : List Sample → List Entry → Type 0
IsExplainedOfFour = IsListFor four_ports_receiver

-- the reading of an entry in the list of cells with four antenna ports
abbrev pub IsReadingOfFour : List Sample → Entry → Reading → Type 0
IsReadingOfFour = IsReadingFor four_ports_receiver
