use Rattle.evidence.proofs.receivers.shown_in.Goals as goal

pub returns-in-OnePort : goal.returns-in-OnePort
returns-in-OnePort c = rw c.in-OnePort.is c.shown_of.ensures

pub returns-in-TwoPorts : goal.returns-in-TwoPorts
returns-in-TwoPorts c = rw c.in-TwoPorts.is c.shown_of-in-TwoPorts.ensures

pub returns-in-LongPrefix : goal.returns-in-LongPrefix
returns-in-LongPrefix c = rw c.in-LongPrefix.is c.shown_of_long.ensures

pub returns-in-FourPorts : goal.returns-in-FourPorts
returns-in-FourPorts c = rw c.in-FourPorts.is c.shown_of-in-FourPorts.ensures
