use Rattle.clean_air.proofs.SlowGains.{fading_slot_is_through, slow_leaves_room, turning_leaves_room, still_leaves_room}
use Rattle.clean_air.proofs.through.fading_slot_is_seen_through.Goals as goal

pub returns-clause-through : goal.returns-clause-through
returns-clause-through c = fading_slot_is_through

pub returns-clause-slow : goal.returns-clause-slow
returns-clause-slow c = slow_leaves_room

pub returns-clause-turning : goal.returns-clause-turning
returns-clause-turning c = turning_leaves_room

pub returns-clause-still : goal.returns-clause-still
returns-clause-still c = still_leaves_room
