use Rattle.std.proofs.Common.{◌∙◌, ◌*◌, ◌^◌, arith, ap, ap₂}
use Rattle.std.proofs.lemmas.Nat.{mul-le}
use Rattle.cs_num.specs.Complex.{IsWithin, times, conjugate, largest_part}
use Rattle.cs_num.proofs.Complex.{largest_part-le, times-within, conjugate-within}
use Rattle.soft_bits.specs.Kept.{slot_of}
use Rattle.soft_bits.specs.Layout.{sent_with}
use Rattle.soft_bits.proofs.pilots.pilot_of.Goals as goal

pub mul-requires : goal.mul-requires
mul-requires c =
    let small : IsWithin 90 c.conj.result = rw c.conj.ensures (conjugate-within c.sent_at-sent.result 90 c.sent_at-sent.ensures.small) in
    omega (arith, mul-le (largest_part c.seen_of.result) (largest_part c.conj.result) (2 ^ 25) 90 (largest_part-le _ _ c.seen_of.ensures.small) (largest_part-le _ _ small))

pub returns-clause-value : goal.returns-clause-value
returns-clause-value c =
    c.mul.ensures
    ∙ ap₂ times c.seen_of.ensures.value
    (c.conj.ensures ∙ ap conjugate (c.sent_at-sent.ensures.value ∙ ap (sent_with c.args.layout.now (slot_of c.args.seen.now)) c.subcarrier.ensures.value))

pub returns-clause-small : goal.returns-clause-small
returns-clause-small c =
    let small : IsWithin 90 c.conj.result = rw c.conj.ensures (conjugate-within c.sent_at-sent.result 90 c.sent_at-sent.ensures.small) in
    rw c.mul.ensures (times-within c.seen_of.result c.conj.result (2 ^ 25) 90 (90 * 2 ^ 25) c.seen_of.ensures.small small (omega arith))
