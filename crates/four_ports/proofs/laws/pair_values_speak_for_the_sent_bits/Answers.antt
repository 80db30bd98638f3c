use Rattle.four_ports.proofs.Values.{pair_values_speak, received_pair_speaks}
use Rattle.four_ports.proofs.laws.pair_values_speak_for_the_sent_bits.Goals as goal

pub returns-clause-seen : goal.returns-clause-seen
returns-clause-seen c = pair_values_speak

pub returns-clause-recording : goal.returns-clause-recording
returns-clause-recording c = received_pair_speaks
