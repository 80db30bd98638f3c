use Rattle.std.proofs.Common.{refl}
use Rattle.long_prefix.proofs.reading.symbols_of.Goals as goal

pub returns-clause-values : goal.returns-clause-values
returns-clause-values c =
    rw (c.symbol_of.ensures.value, c.symbol_of-2.ensures.value, c.symbol_of-3.ensures.value, c.symbol_of-4.ensures.value, c.symbol_of-5.ensures.value, c.symbol_of-6.ensures.value)
    refl
