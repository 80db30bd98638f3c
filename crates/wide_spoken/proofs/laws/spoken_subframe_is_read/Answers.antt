use Rattle.wide_spoken.proofs.Grants.{spoken_grant_is_found}
use Rattle.wide_spoken.proofs.Blocks.{spoken_block_is_read}
use Rattle.wide_spoken.proofs.Spoken.{spoken_frame_is_read}
use Rattle.wide_spoken.proofs.laws.spoken_subframe_is_read.Goals as goal

pub returns-clause-grant : goal.returns-clause-grant
returns-clause-grant c = spoken_grant_is_found

pub returns-clause-block : goal.returns-clause-block
returns-clause-block c = spoken_block_is_read

pub returns-clause-frame : goal.returns-clause-frame
returns-clause-frame c = spoken_frame_is_read
