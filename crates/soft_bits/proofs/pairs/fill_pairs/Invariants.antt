use Rattle.std.proofs.Common.{◌≡◌, ◌*◌, take}
use Rattle.finite.specs.Lists.{joined_below}
use Rattle.soft_bits.specs.Places.{in_subframe}
use Rattle.soft_bits.specs.Pairs.{pair_at}
use Rattle.soft_bits.proofs.pairs.fill_pairs.Given as goal

abbrev pub invariant-loop-i : goal.invariant-loop-i
invariant-loop-i g l =
    take (4 * l.i) l.values ≡ joined_below l.i (pair_at g.K.Ports.pairing (in_subframe l.first l.second) l.places)
