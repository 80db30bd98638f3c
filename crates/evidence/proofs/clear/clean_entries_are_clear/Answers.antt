use Rattle.evidence.proofs.ClearEntries.{faithful_entries_are_supported, clean_entries_are_clear}
use Rattle.evidence.proofs.clear.clean_entries_are_clear.Goals as goal

pub returns-clause-faithful : goal.returns-clause-faithful
returns-clause-faithful c = faithful_entries_are_supported

pub returns-clause-clean : goal.returns-clause-clean
returns-clause-clean c = clean_entries_are_clear
