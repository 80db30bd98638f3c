use Rattle.std.proofs.Common.{refl}
use Rattle.explain.specs.Frame.{seen_slot}
use Rattle.explain.proofs.frame.symbols_in.Goals as goal

pub returns-clause-symbols : goal.returns-clause-symbols
unfolding seen_slot
returns-clause-symbols c identity =
    rw (c.symbol_of.ensures.value, c.symbol_of-2.ensures.value, c.symbol_of-3.ensures.value, c.symbol_of-4.ensures.value, c.symbol_of-5.ensures.value, c.symbol_of-6.ensures.value, c.symbol_of-7.ensures.value)
    refl
