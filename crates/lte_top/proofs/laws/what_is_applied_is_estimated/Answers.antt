use Rattle.lte_top.proofs.Applied.{applied_is_estimated}
use Rattle.lte_top.proofs.laws.what_is_applied_is_estimated.Goals as goal

pub returns : goal.returns
returns c = applied_is_estimated c.turned_recordings.ensures.recording c.the_turn_estimated.ensures.cells
