use Rattle.waveform.proofs.SeenWaves.{waveform_of_one_is_seen, waveform_of_two_is_seen, waveform_of_four_is_seen, waveform_of_signal_is_seen}
use Rattle.waveform.proofs.seen.seen_waveform_is_near.Goals as goal

pub returns-clause-one_port : goal.returns-clause-one_port
returns-clause-one_port c = waveform_of_one_is_seen

pub returns-clause-two_ports : goal.returns-clause-two_ports
returns-clause-two_ports c = waveform_of_two_is_seen

pub returns-clause-four_ports : goal.returns-clause-four_ports
returns-clause-four_ports c = waveform_of_four_is_seen

pub returns-clause-signal : goal.returns-clause-signal
returns-clause-signal c = waveform_of_signal_is_seen
