use Rattle.std.proofs.Common.{arith, ◌≡◌, ◌+◌, ◌-◌, ◌*◌, ◌/◌, ◌^◌, ◌≤◌, ◌∙◌, ap, sym, subst, length}
use Rattle.cs_num.specs.Complex.{IsWithin}
use Rattle.cs_num.specs.Rounding.{rounded}
use Rattle.cs_num.specs.Sums.{complex_sum_below}
use Rattle.wide_cell.specs.Cell.{points}
use Rattle.tones.specs.Folding.{folded_term, row_of, value_from}
use Rattle.tones.proofs.Sizes.{quarter_few, step_small, rounded_small}
use Rattle.tones.proofs.Rows.{row-length}
use Rattle.tones.proofs.symbol.value_of.Goals.{After-stride}
use Rattle.tones.proofs.symbol.value_of.Goals as goal

module _ (c : After-stride) where
  quarter_is : length c.args.folded.now / 4 ≡ points c.args.rate / 4
  quarter_is = ap (λ n. n / 4) c.requires.folded

  row_is : length (row_of c.args.folded.now (length c.args.folded.now / 4) c.args.frequency) ≡ points c.args.rate / 4
  row_is =
      let all : length c.args.folded.now ≡ 4 * (length c.args.folded.now / 4) = omega (arith, c.requires.folded) in
      row-length c.args.folded.now (length c.args.folded.now / 4) c.args.frequency all ∙ quarter_is

pub tone_sum-requires-clause-few : goal.tone_sum-requires-clause-few
tone_sum-requires-clause-few c = subst (λ n. n ≤ 512) (sym (row_is c)) (quarter_few c.args.rate c.requires.rate)

pub tone_sum-requires-clause-step : goal.tone_sum-requires-clause-step
tone_sum-requires-clause-step c = rw c.stride.ensures.value (step_small c.args.rate c.args.frequency c.requires.rate c.requires.frequency)

pub returns-clause-value : goal.returns-clause-value
unfolding value_from
returns-clause-value c =
    let sum : c.tone_sum.result ≡ complex_sum_below (points c.args.rate / 4) (folded_term (row_of c.args.folded.now (points c.args.rate / 4) c.args.frequency) (2 ^ (4 - c.args.rate) * c.args.frequency)) =
    c.tone_sum.ensures.value
    ∙ ap (λ s. complex_sum_below (length (row_of c.args.folded.now (length c.args.folded.now / 4) c.args.frequency)) (folded_term (row_of c.args.folded.now (length c.args.folded.now / 4) c.args.frequency) (s * c.args.frequency))) c.stride.ensures.value
    ∙ ap (λ n. complex_sum_below n (folded_term (row_of c.args.folded.now (length c.args.folded.now / 4) c.args.frequency) (2 ^ (4 - c.args.rate) * c.args.frequency))) (row_is c.before.before.before)
    ∙ ap (λ q. complex_sum_below (points c.args.rate / 4) (folded_term (row_of c.args.folded.now q c.args.frequency) (2 ^ (4 - c.args.rate) * c.args.frequency))) (quarter_is c.before.before.before) in
    c.round_shift.ensures ∙ ap (λ r. rounded c.tone_sum.result (16 + r)) c.from.ensures ∙ ap (λ s. rounded s (16 + c.args.rate)) sum

pub returns-clause-small : goal.returns-clause-small
returns-clause-small c =
    let sum : IsWithin (points c.args.rate / 4 * 2 ^ 36) c.tone_sum.result = subst (λ n. IsWithin (n * 2 ^ 36) c.tone_sum.result) (row_is c.before.before.before) c.tone_sum.ensures.small in
    subst (IsWithin (2 ^ 25)) (sym (c.round_shift.ensures ∙ ap (λ r. rounded c.tone_sum.result (16 + r)) c.from.ensures)) (rounded_small c.args.rate c.tone_sum.result c.requires.rate sum)
