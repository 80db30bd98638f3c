use Rattle.std.proofs.Common.{◌≡◌, arith, refl, sym, ap, ◌∙◌, length, take}
use Rattle.std.proofs.lemmas.List.{length-take-le}
use Rattle.turbo_code.proofs.TableFacts.{is_small, row_size}
use Rattle.turbo_code.proofs.Encoding.{coded_is}
use Rattle.turbo_code.proofs.encoder.encode.Goals as goal

pub encoder_of-first-requires : goal.encoder_of-first-requires
encoder_of-first-requires c = let high = (is_small c.args.row c.requires.row).high in let count = c.requires.count in omega (arith, high, count)

pub slice_bounds-swapped-end : goal.slice_bounds-swapped-end
slice_bounds-swapped-end c =
    let high = (is_small c.args.row c.requires.row).high in
    let count = c.requires.count in
    let whole = c.in_order-swapped.ensures.whole in
    omega (arith, high, count, whole)

pub slice_bounds-encoder_of-end : goal.slice_bounds-encoder_of-end
slice_bounds-encoder_of-end c =
    let high = (is_small c.args.row c.requires.row).high in
    let count = c.requires.count in
    let whole = c.in_order-swapped.ensures.whole in
    sym (length-take-le (length c.args.bits.now) c.in_order-swapped.result (omega (arith, high, count, whole)))

pub stream_of-requires : goal.stream_of-requires
stream_of-requires c = let high = (is_small c.args.row c.requires.row).high in let count = c.requires.count in omega (arith, high, count)

pub returns-clause-d : goal.returns-clause-d
returns-clause-d c =
    let k = length c.args.bits.now in
    let high = (is_small c.args.row c.requires.row).high in
    let count = c.requires.count in
    let whole = c.in_order-swapped.ensures.whole in
    let swapped = take k c.in_order-swapped.result in
    let long : length swapped ≡ k = length-take-le k c.in_order-swapped.result (omega (arith, high, count, whole)) in
    let a = c.encoder_of-first in
    let b = c.encoder_of-second in
    coded_is c.args.row c.args.bits.now swapped _ _ _ a.result.tail.x a.result.tail.z b.result.tail.x b.result.tail.z
    (take k a.result.parities) (take k b.result.parities)
    c.in_order-swapped.ensures.word a.ensures.parities
    (ap (λ n. take n b.result.parities) (sym long) ∙ b.ensures.parities)
    a.ensures.x a.ensures.z b.ensures.x b.ensures.z
    c.stream_of.ensures c.stream_of-2.ensures c.stream_of-3.ensures

pub returns-clause-size : goal.returns-clause-size
returns-clause-size c = row_size c.args.row c.requires.row

pub returns-clause-size_in_use : goal.returns-clause-size_in_use
returns-clause-size_in_use c is = (c.args.row, is, refl)
