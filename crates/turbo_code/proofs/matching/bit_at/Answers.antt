use Rattle.std.proofs.Common.{arith}
use Rattle.turbo_code.proofs.TableFacts.{is_small_size}
use Rattle.turbo_code.proofs.matching.bit_at.Goals as goal

pub bounds-coded-at-2 : goal.bounds-coded-at-2
bounds-coded-at-2 c =
    let high = (is_small_size _ c.requires.size).high in
    let inside = c.requires.index in
    omega (arith, high, inside)
