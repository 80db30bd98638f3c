use Rattle.std.proofs.Common.{ap, sym, ◌∙◌}
use Rattle.sub_block.specs.Items.{item}
use Rattle.conv_code.proofs.Items.{item_is}
use Rattle.conv_code.proofs.matching.item_in.Goals as goal

pub returns-clause-item : goal.returns-clause-item
returns-clause-item c = ap (item _) c.stream_index.ensures.index ∙ sym (item_is c.args.n c.args.i c.requires.low c.requires.high)
