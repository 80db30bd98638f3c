use Rattle.clean_air.proofs.EchoCells.{slot_over_is_through, echoes_are_through, loaded_is_echoed}
use Rattle.clean_air.proofs.through.echoes_are_seen_through.Goals as goal

pub returns-clause-slot : goal.returns-clause-slot
returns-clause-slot c = slot_over_is_through

pub returns-clause-cell : goal.returns-clause-cell
returns-clause-cell c = echoes_are_through

pub returns-clause-clean : goal.returns-clause-clean
returns-clause-clean c = loaded_is_echoed
