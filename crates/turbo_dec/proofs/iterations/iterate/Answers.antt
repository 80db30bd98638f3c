use Rattle.std.proofs.Common.{take, ap, ◌∙◌, map}
use Rattle.std.proofs.lemmas.List.{take-map}
use Rattle.turbo_dec.specs.Block.{handed_on}
use Rattle.turbo_dec.proofs.Iterating.{second_is, decoded_is}
use Rattle.turbo_dec.proofs.iterations.iterate.Goals as goal

pub returns-clause-word : goal.returns-clause-word
returns-clause-word c =
    let first = c.first_extrinsics_of-first.ensures.values in
    let second = second_is c.args.row.now c.args.sums.now _ c.first_extrinsics_of-first.result c.hand_on.result c.second_extrinsics_of-second.result c.hand_on.ensures.values first c.second_extrinsics_of-second.ensures.values in
    decoded_is c.args.row.now c.args.sums.now _ _ _ _ c.bits_decoded.result c.stream_of.ensures.values c.stream_of.ensures.count
    (c.front_of.ensures.values ∙ first) (c.front_of-2.ensures.values ∙ second) c.bits_decoded.ensures.word

pub returns-clause-prior : goal.returns-clause-prior
returns-clause-prior c =
    let first = c.first_extrinsics_of-first.ensures.values in
    let second = second_is c.args.row.now c.args.sums.now _ c.first_extrinsics_of-first.result c.hand_on.result c.second_extrinsics_of-second.result c.hand_on.ensures.values first c.second_extrinsics_of-second.ensures.values in
    ap (take c.args.row.now.k) c.hand_on-2.ensures.values ∙ take-map handed_on c.args.row.now.k c.second_extrinsics_of-second.result ∙ ap (map handed_on) second
