use Rattle.cancel.proofs.InRecording.{answer_takes_loaded_off, answer_takes_clean_off}
use Rattle.cancel.proofs.laws.answer_leaves_errors.Goals as goal

pub returns-clause-loaded : goal.returns-clause-loaded
returns-clause-loaded c = answer_takes_loaded_off

pub returns-clause-clean : goal.returns-clause-clean
returns-clause-clean c = answer_takes_clean_off
