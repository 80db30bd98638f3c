use Rattle.two_ports.proofs.Values.{pair_values_speak, quiet_pair_values_speak}
use Rattle.two_ports.proofs.ReceivedPairs.{received_pair_speaks, quiet_received_pair_speaks}
use Rattle.two_ports.proofs.laws.pair_values_speak_for_the_sent_bits.Goals as goal

pub returns-clause-seen : goal.returns-clause-seen
returns-clause-seen c = pair_values_speak

pub returns-clause-recording : goal.returns-clause-recording
returns-clause-recording c = received_pair_speaks

pub returns-clause-quiet : goal.returns-clause-quiet
returns-clause-quiet c = quiet_pair_values_speak

pub returns-clause-quiet_recording : goal.returns-clause-quiet_recording
returns-clause-quiet_recording c = quiet_received_pair_speaks
