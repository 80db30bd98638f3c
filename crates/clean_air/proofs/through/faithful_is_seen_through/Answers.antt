use Rattle.clean_air.proofs.FaithfulCells.{received_slot_is_through, faithful_is_through}
use Rattle.clean_air.proofs.through.faithful_is_seen_through.Goals as goal

pub returns-clause-slot : goal.returns-clause-slot
returns-clause-slot c = received_slot_is_through

pub returns-clause-cell : goal.returns-clause-cell
returns-clause-cell c = faithful_is_through
