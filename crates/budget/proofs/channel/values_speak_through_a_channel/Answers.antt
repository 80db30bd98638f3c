use Rattle.budget.proofs.Through.{values_speak_through, one_gain_leaves_room, quiet_gain_leaves_room, one_gain_is_through, one_gain_is_read}
use Rattle.budget.proofs.channel.values_speak_through_a_channel.Goals as goal

pub returns-clause-speak : goal.returns-clause-speak
returns-clause-speak c = values_speak_through

pub returns-clause-room : goal.returns-clause-room
returns-clause-room c = one_gain_leaves_room

pub returns-clause-quiet_room : goal.returns-clause-quiet_room
returns-clause-quiet_room c = quiet_gain_leaves_room

pub returns-clause-through : goal.returns-clause-through
returns-clause-through c = one_gain_is_through

pub returns-clause-read : goal.returns-clause-read
returns-clause-read c = one_gain_is_read
