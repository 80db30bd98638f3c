use Rattle.std.proofs.Common.{arith}
use Rattle.tailbite.proofs.Keys.{decoded_array}
use Rattle.tailbite.proofs.search.least_of.Goals as goal

pub overflow_cast-result : goal.overflow_cast-result
overflow_cast-result g c =
    let read = decoded_array g.row.N _ _ _ c.told-values c.least_key-key.ensures c.requires.high c.requires.magnitudes c.of_number.ensures.word in
    omega (arith, read.small)

pub returns-clause-word : goal.returns-clause-word
returns-clause-word g c =
    (decoded_array g.row.N _ _ _ c.told-values c.least_key-key.ensures c.requires.high c.requires.magnitudes c.of_number.ensures.word).word_is

pub returns-clause-cost : goal.returns-clause-cost
returns-clause-cost g c =
    (decoded_array g.row.N _ _ _ c.told-values c.least_key-key.ensures c.requires.high c.requires.magnitudes c.of_number.ensures.word).cost_is
