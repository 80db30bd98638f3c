use Rattle.std.proofs.Common.{arith}
use Rattle.published_conditions.proofs.conditions.decoded.Goals as goal

pub decode-requires-clause-magnitudes : goal.decode-requires-clause-magnitudes
decode-requires-clause-magnitudes c i d inside j e within = let small = c.requires.small i d inside j e within in omega (arith, small)
