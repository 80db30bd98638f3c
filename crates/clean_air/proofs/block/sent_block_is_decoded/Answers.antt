use Rattle.clean_air.proofs.SharedBlocks.{heard_block_is_decoded, heard_subframe_decodes, carried_block_is_decoded}
use Rattle.clean_air.proofs.block.sent_block_is_decoded.Goals as goal

pub returns-clause-heard : goal.returns-clause-heard
returns-clause-heard c = heard_block_is_decoded

pub returns-clause-subframe : goal.returns-clause-subframe
returns-clause-subframe c = heard_subframe_decodes

pub returns-clause-carried : goal.returns-clause-carried
returns-clause-carried c = carried_block_is_decoded
