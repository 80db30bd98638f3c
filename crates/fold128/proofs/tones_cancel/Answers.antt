use Rattle.fold128.proofs.Laws.{tones_that_turn_cancel}
use Rattle.fold128.proofs.tones_cancel.Goals as goal

pub returns : goal.returns
returns c = tones_that_turn_cancel
