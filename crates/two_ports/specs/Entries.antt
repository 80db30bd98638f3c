-- A recording's list of cells with two antenna ports, decoded by transmit diversity pairs. (own)
use Rattle.std.specs.Prelude.{List, Some}
use Rattle.cs_num.specs.declared.Sample.{Sample}
use Rattle.lte_types.specs.declared.carrier.Carrier.TheVariants.{TwoPorts}
use Rattle.lte_types.specs.declared.entry.Entry.{Entry}
use Rattle.soft_bits.specs.Pairs.{over_two, paired_by}
use Rattle.explain.specs.Receiver.{Receiver, by_slots}
use Rattle.explain.specs.Entries.{IsListFor}
use Rattle.explain.specs.declared.readings.Reading.{Reading}
use Rattle.explain.specs.Readings.{IsReadingFor}

-- the receiver for two antenna ports: it decodes transmit diversity pairs, and accepts only MIBs with two antenna
-- ports, whose CRC has the mask FFFF (hexadecimal; TS 36.212 section 5.3.1.1)
abbrev pub two_ports_receiver : Receiver
two_ports_receiver = by_slots TwoPorts (Some 2) (paired_by over_two)

-- a recording's list of cells with two antenna ports
abbrev pub IsExplainedOfTwo : List Sample → List Entry → Type 0
IsExplainedOfTwo = IsListFor two_ports_receiver

-- the reading of an entry in the list of cells with two antenna ports
abbrev pub IsReadingOfTwo : List Sample → Entry → Reading → Type 0
IsReadingOfTwo = IsReadingFor two_ports_receiver
