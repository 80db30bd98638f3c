use Rattle.std.proofs.Common.{arith}
use Rattle.turbo_code.proofs.TableFacts.{is_small}
use Rattle.turbo_dec.proofs.Small.{small_tail}
use Rattle.turbo_dec.proofs.Iterating.{first_is}
use Rattle.turbo_dec.proofs.iterations.first_extrinsics_of.Goals as goal

pub tail_of-requires : goal.tail_of-requires
tail_of-requires c = let high = (is_small c.args.row.now c.requires.row).high in omega (arith, high)

pub extrinsics_of-requires-clause-small_tail : goal.extrinsics_of-requires-clause-small_tail
extrinsics_of-requires-clause-small_tail c = rw c.tail_of.ensures (small_tail c.args.sums.now c.args.row.now.k c.requires.small)

pub returns-clause-values : goal.returns-clause-values
returns-clause-values c =
    first_is c.args.row.now c.args.sums.now _ _ _ _ _ c.extrinsics_of.result c.stream_of.ensures.values c.stream_of-2.ensures.values c.tail_of.ensures
    c.front_of.ensures.values c.stream_of.ensures.count c.extrinsics_of.ensures.values
