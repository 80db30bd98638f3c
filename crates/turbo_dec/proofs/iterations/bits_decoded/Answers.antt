use Rattle.std.proofs.Common.{arith, false}
use Rattle.finite.proofs.Lists.{front_is}
use Rattle.turbo_dec.proofs.iterations.bits_decoded.Goals as goal

pub returns-clause-word : goal.returns-clause-word
returns-clause-word c =
    front_is false _ _ c.loop-k.word (omega (arith, c.loop-k.invariant.size, c.requires.count)) (λ j below. c.loop-k.invariant.at j (omega (arith, c.loop-k-test.false, below)))
