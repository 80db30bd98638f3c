use Rattle.std.proofs.Common.{◌+ℤ◌, ◌∙◌, ap, ap₂, arith, FitsSigned}
use Rattle.std.specs.Int.{w128}
use Rattle.std.proofs.lemmas.Int.{to_z-of_z, fits_signed_from_abs}
use Rattle.finite.proofs.Integers.{abs-sum}
use Rattle.sync_seq.specs.Secondary.{sss_at}
use Rattle.accumulated_sss.specs.Steps.{number_at, signed_sum, signal_sum_by}
use Rattle.accumulated_sss.proofs.Turns.{sequence_sum, sequence-within}
use Rattle.accumulated_sss.proofs.detecting.signal_sum.Goals as goal

pub signed_sum-requires-clause-sequence : goal.signed_sum-requires-clause-sequence
signed_sum-requires-clause-sequence c = rw c.sss.ensures (sequence-within c.args.pair.n1 c.args.n2 c.args.pair.half)

pub signed_sum-requires-2-clause-sequence : goal.signed_sum-requires-2-clause-sequence
signed_sum-requires-2-clause-sequence c = rw c.sss-2.ensures (sequence-within c.args.pair.n1 c.args.n2 c.next_half.result)

pub returns-clause-value : goal.returns-clause-value
unfolding signal_sum_by
returns-clause-value c =
    let a = c.signed_sum.result in
    let b = c.signed_sum-2.result in
    let small_a = c.signed_sum.ensures.small in
    let small_b = c.signed_sum-2.ensures.small in
    let sum = abs-sum a b in
    let first : FitsSigned w128 a = fits_signed_from_abs w128 a (omega (arith, small_a)) in
    let second : FitsSigned w128 b = fits_signed_from_abs w128 b (omega (arith, small_b)) in
    let both : FitsSigned w128 (a +ℤ b) = fits_signed_from_abs w128 (a +ℤ b) (omega (arith, small_a, small_b, sum)) in
    simp to_z-of_z (ap₂ ◌+ℤ◌
    (c.signed_sum.ensures.value ∙ ap (λ s. signed_sum c.args.even.now (number_at s)) c.sss.ensures ∙ sequence_sum c.args.even.now c.args.pair.n1 c.args.n2 c.args.pair.half)
    (c.signed_sum-2.ensures.value ∙ ap (λ s. signed_sum c.args.odd.now (number_at s)) c.sss-2.ensures ∙ sequence_sum c.args.odd.now c.args.pair.n1 c.args.n2 c.next_half.result
    ∙ ap (λ h. signed_sum c.args.odd.now (sss_at c.args.pair.n1 c.args.n2 h)) c.next_half.ensures))
