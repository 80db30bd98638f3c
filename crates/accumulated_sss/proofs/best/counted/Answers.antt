use Rattle.std.proofs.Common.{◌+◌, ◌∙◌, ap, ap₂}
use Rattle.lte_types.specs.declared.frame.Half.TheVariants.{Zero, Five}
use Rattle.accumulated_sss.specs.Steps.{number_at, row_matches, matches_by}
use Rattle.accumulated_sss.proofs.Turns.{sequence_matches, sequence-within}
use Rattle.accumulated_sss.proofs.best.counted.Goals as goal

pub count-requires-clause-sequence : goal.count-requires-clause-sequence
count-requires-clause-sequence c = rw c.sss-zero.ensures (sequence-within c.args.n1 c.args.n2 Zero)

pub count-requires-2-clause-sequence : goal.count-requires-2-clause-sequence
count-requires-2-clause-sequence c = rw c.sss-five.ensures (sequence-within c.args.n1 c.args.n2 Five)

pub count-requires-3-clause-sequence : goal.count-requires-3-clause-sequence
count-requires-3-clause-sequence c = rw c.sss-five.ensures (sequence-within c.args.n1 c.args.n2 Five)

pub count-requires-4-clause-sequence : goal.count-requires-4-clause-sequence
count-requires-4-clause-sequence c = rw c.sss-zero.ensures (sequence-within c.args.n1 c.args.n2 Zero)

pub returns-clause-in_0 : goal.returns-clause-in_0
unfolding matches_by
returns-clause-in_0 c =
    ap₂ ◌+◌
    (c.count.ensures.value ∙ ap (λ s. row_matches c.args.even.now (number_at s)) c.sss-zero.ensures ∙ sequence_matches c.args.even.now c.args.n1 c.args.n2 Zero)
    (c.count-2.ensures.value ∙ ap (λ s. row_matches c.args.odd.now (number_at s)) c.sss-five.ensures ∙ sequence_matches c.args.odd.now c.args.n1 c.args.n2 Five)

pub returns-clause-in_5 : goal.returns-clause-in_5
unfolding matches_by
returns-clause-in_5 c =
    ap₂ ◌+◌
    (c.count-3.ensures.value ∙ ap (λ s. row_matches c.args.even.now (number_at s)) c.sss-five.ensures ∙ sequence_matches c.args.even.now c.args.n1 c.args.n2 Five)
    (c.count-4.ensures.value ∙ ap (λ s. row_matches c.args.odd.now (number_at s)) c.sss-zero.ensures ∙ sequence_matches c.args.odd.now c.args.n1 c.args.n2 Zero)
