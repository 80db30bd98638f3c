use Rattle.clean_air.proofs.SoftValues.{seen_pair_supports_bits, values_support_bits, received_slot_is_heard, quiet_pair_supports_bits, quiet_values_support_bits, quiet_slot_is_heard}
use Rattle.clean_air.proofs.values.values_support_the_sent_bits.Goals as goal

pub returns-clause-pair : goal.returns-clause-pair
returns-clause-pair c = seen_pair_supports_bits

pub returns-clause-seen : goal.returns-clause-seen
returns-clause-seen c = values_support_bits

pub returns-clause-recording : goal.returns-clause-recording
returns-clause-recording c = received_slot_is_heard

pub returns-clause-quiet_pair : goal.returns-clause-quiet_pair
returns-clause-quiet_pair c = quiet_pair_supports_bits

pub returns-clause-quiet : goal.returns-clause-quiet
returns-clause-quiet c = quiet_values_support_bits

pub returns-clause-quiet_recording : goal.returns-clause-quiet_recording
returns-clause-quiet_recording c = quiet_slot_is_heard
