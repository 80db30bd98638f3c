use Rattle.budget.proofs.SeenOver.{prefix_turns_round, arriving_is_received, one_path_is_received_over, turned_part_is_seen, turned_sending_is_small, sending_over_is_small, amplitude_is_seen_over, amplitude_is_seen_over_in_recording}
use Rattle.budget.proofs.BendsOver.{paths_leave_room, paths_are_through, paths_are_read, slot_over_is_heard}
use Rattle.budget.proofs.paths.several_paths_are_a_channel.Goals as goal

pub returns-clause-prefix : goal.returns-clause-prefix
returns-clause-prefix c = prefix_turns_round

pub returns-clause-arriving : goal.returns-clause-arriving
returns-clause-arriving c = arriving_is_received

pub returns-clause-one_path : goal.returns-clause-one_path
returns-clause-one_path c = one_path_is_received_over

pub returns-clause-turned : goal.returns-clause-turned
returns-clause-turned c = turned_part_is_seen

pub returns-clause-turned_sending : goal.returns-clause-turned_sending
returns-clause-turned_sending c = turned_sending_is_small

pub returns-clause-sending : goal.returns-clause-sending
returns-clause-sending c = sending_over_is_small

pub returns-clause-seen : goal.returns-clause-seen
returns-clause-seen c = amplitude_is_seen_over

pub returns-clause-recording : goal.returns-clause-recording
returns-clause-recording c = amplitude_is_seen_over_in_recording

pub returns-clause-room : goal.returns-clause-room
returns-clause-room c = paths_leave_room

pub returns-clause-through : goal.returns-clause-through
returns-clause-through c = paths_are_through

pub returns-clause-read : goal.returns-clause-read
returns-clause-read c = paths_are_read

pub returns-clause-heard : goal.returns-clause-heard
returns-clause-heard c = slot_over_is_heard
