use Rattle.std.proofs.Common.{◌+◌, ◌∙◌, ap, pos}
use Rattle.turbo_code.specs.Streams.{in_order, in_word_order}
use Rattle.turbo_dec.proofs.Small.{small_tail}
use Rattle.turbo_dec.proofs.Iterating.{second_found}
use Rattle.turbo_dec.proofs.iterations.second_extrinsics_of.Goals as goal

pub extrinsics_of-found-requires-clause-small_tail : goal.extrinsics_of-found-requires-clause-small_tail
extrinsics_of-found-requires-clause-small_tail c = rw c.tail_of.ensures (small_tail c.args.sums.now (c.args.row.now.k + 2) c.requires.small)

pub returns-clause-values : goal.returns-clause-values
returns-clause-values c =
    second_found c.args.row.now c.args.sums.now _ _ _ _ _ c.extrinsics_of-found.result _
    (c.front_of-2.ensures.values ∙ c.in_order_of-systematic.ensures.values ∙ ap (in_order (pos 0) c.args.row.now) c.stream_of.ensures.values)
    c.stream_of-2.ensures.values c.tail_of.ensures
    (c.front_of-3.ensures.values ∙ c.in_order_of-prior.ensures.values ∙ ap (in_order (pos 0) c.args.row.now) c.front_of.ensures.values)
    c.front_of-2.ensures.count c.extrinsics_of-found.ensures.values
    (c.in_word_order_of.ensures.values ∙ ap (in_word_order (pos 0) c.args.row.now) c.front_of-4.ensures.values)
