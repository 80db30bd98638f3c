use Rattle.wide_list.proofs.Blocks.{together_block, no_block}
use Rattle.wide_list.proofs.system.together_or.Goals as goal

pub returns-in-Some-clause-bits : goal.returns-in-Some-clause-bits
returns-in-Some-clause-bits c wide cell start sfn unread =
    together_block wide cell start sfn c.args.reason c.args.frames.now unread c.in-Some.found.bits.items c.in-Some.ensures.bits

pub returns-in-None-clause-bits : goal.returns-in-None-clause-bits
returns-in-None-clause-bits c wide cell start sfn unread = no_block wide cell start sfn c.args.reason c.args.frames.now unread c.in-None.ensures.fields
