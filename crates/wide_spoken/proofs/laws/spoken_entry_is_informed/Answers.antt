use Rattle.wide_spoken.proofs.Listed.{spoken_system_is_read, spoken_entry_is_informed}
use Rattle.wide_spoken.proofs.laws.spoken_entry_is_informed.Goals as goal

pub returns-clause-system : goal.returns-clause-system
returns-clause-system c = spoken_system_is_read

pub returns-clause-entry : goal.returns-clause-entry
returns-clause-entry c = spoken_entry_is_informed
