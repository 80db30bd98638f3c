use Rattle.budget.proofs.Causes.{sending_has_two_causes, leakage_is_small, rounding_sent_is_small, sending_is_small, sending_is_linear}
use Rattle.budget.proofs.Causes.{three_causes, four_causes}
use Rattle.budget.proofs.Seen.{amplitude_is_seen, quiet_amplitude_is_seen, two_amplitudes_are_seen, four_amplitudes_are_seen, units_are_seen}
use Rattle.budget.proofs.Seen.{amplitude_is_seen_in_recording, quiet_amplitude_is_seen_in_recording, two_amplitudes_are_seen_in_recording, four_amplitudes_are_seen_in_recording}
use Rattle.budget.proofs.Seen.{quiet_two_are_seen, quiet_four_are_seen, quiet_two_are_seen_in_recording, quiet_four_are_seen_in_recording}
use Rattle.budget.proofs.amplitude.seen_amplitude_is_near.Goals as goal

pub returns-clause-two_causes : goal.returns-clause-two_causes
returns-clause-two_causes c = sending_has_two_causes

pub returns-clause-leakage : goal.returns-clause-leakage
returns-clause-leakage c = leakage_is_small

pub returns-clause-rounding : goal.returns-clause-rounding
returns-clause-rounding c = rounding_sent_is_small

pub returns-clause-sending : goal.returns-clause-sending
returns-clause-sending c = sending_is_small

pub returns-clause-linear : goal.returns-clause-linear
returns-clause-linear c = sending_is_linear

pub returns-clause-three_causes : goal.returns-clause-three_causes
returns-clause-three_causes c = three_causes

pub returns-clause-four_causes : goal.returns-clause-four_causes
returns-clause-four_causes c = four_causes

pub returns-clause-one_gain : goal.returns-clause-one_gain
returns-clause-one_gain c = amplitude_is_seen

pub returns-clause-quiet_gain : goal.returns-clause-quiet_gain
returns-clause-quiet_gain c = quiet_amplitude_is_seen

pub returns-clause-two_gains : goal.returns-clause-two_gains
returns-clause-two_gains c = two_amplitudes_are_seen

pub returns-clause-four_gains : goal.returns-clause-four_gains
returns-clause-four_gains c = four_amplitudes_are_seen

pub returns-clause-quiet_two : goal.returns-clause-quiet_two
returns-clause-quiet_two c = quiet_two_are_seen

pub returns-clause-quiet_four : goal.returns-clause-quiet_four
returns-clause-quiet_four c = quiet_four_are_seen

pub returns-clause-recording : goal.returns-clause-recording
returns-clause-recording c = amplitude_is_seen_in_recording

pub returns-clause-quiet_recording : goal.returns-clause-quiet_recording
returns-clause-quiet_recording c = quiet_amplitude_is_seen_in_recording

pub returns-clause-recording_of_two : goal.returns-clause-recording_of_two
returns-clause-recording_of_two c = two_amplitudes_are_seen_in_recording

pub returns-clause-recording_of_four : goal.returns-clause-recording_of_four
returns-clause-recording_of_four c = four_amplitudes_are_seen_in_recording

pub returns-clause-quiet_recording_of_two : goal.returns-clause-quiet_recording_of_two
returns-clause-quiet_recording_of_two c = quiet_two_are_seen_in_recording

pub returns-clause-quiet_recording_of_four : goal.returns-clause-quiet_recording_of_four
returns-clause-quiet_recording_of_four c = quiet_four_are_seen_in_recording

pub returns-clause-by_units : goal.returns-clause-by_units
returns-clause-by_units c = units_are_seen
