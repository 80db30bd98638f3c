use Rattle.clean_air.proofs.Subframes.{values_of_blocks_are_heard, carried_subframe_is_heard, carried_blocks_are_heard}
use Rattle.clean_air.proofs.subframe.carried_blocks_are_heard.Goals as goal

pub returns-clause-blocks : goal.returns-clause-blocks
returns-clause-blocks c = values_of_blocks_are_heard

pub returns-clause-carried : goal.returns-clause-carried
returns-clause-carried c = carried_subframe_is_heard

pub returns-clause-carried_blocks : goal.returns-clause-carried_blocks
returns-clause-carried_blocks c = carried_blocks_are_heard
