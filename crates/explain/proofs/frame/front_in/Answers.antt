use Rattle.std.proofs.Common.{zero, suc, arith}
use Rattle.explain.specs.Frame.{seen_slot}
use Rattle.explain.proofs.frame.front_in.Goals as goal

pub returns-clause-front : goal.returns-clause-front
unfolding seen_slot
returns-clause-front c identity zero below = c.symbol_of.ensures.value
returns-clause-front c identity (suc zero) below = c.symbol_of-2.ensures.value
returns-clause-front c identity (suc (suc zero)) below = c.symbol_of-3.ensures.value
returns-clause-front c identity (suc (suc (suc zero))) below = c.symbol_of-4.ensures.value
returns-clause-front c identity (suc (suc (suc (suc zero)))) below = c.symbol_of-5.ensures.value
returns-clause-front c identity (suc (suc (suc (suc (suc symbol))))) below = absurd (omega (arith, below))
