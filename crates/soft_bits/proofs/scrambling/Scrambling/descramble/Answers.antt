use Rattle.std.proofs.Common.{◌∙◌, ap, arith}
use Rattle.soft_bits.specs.Places.{descrambled}
use Rattle.soft_bits.proofs.Channel.{turned-descrambled}
use Rattle.soft_bits.proofs.scrambling.Scrambling.descramble.Goals as goal

pub returns-clause-values : goal.returns-clause-values
returns-clause-values c =
    c.turn_by.ensures.values ∙ turned-descrambled _ c.self.inside.c_init c.args.first c.args.values.now (λ k below. c.self.invariant k (omega (arith, below, c.requires.few)))
    ∙ ap (λ c_init. descrambled c_init c.args.first c.args.values.now) c.self.view_is
