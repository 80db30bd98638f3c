use Rattle.std.proofs.Common.{◌∙◌}
use Rattle.soft_bits.proofs.Channel.{turned-descrambled}
use Rattle.soft_bits.proofs.scrambling.descramble.Goals as goal

pub returns-clause-values : goal.returns-clause-values
returns-clause-values c =
    c.turn_by.ensures.values ∙ turned-descrambled _ c.args.c_init c.args.first c.args.values.now c.write_first_bits.ensures
