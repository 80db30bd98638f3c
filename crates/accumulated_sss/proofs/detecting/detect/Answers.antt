use Rattle.std.proofs.Common.{◌≡◌, ◌<◌, ◌∙◌, ℕ, ℤ, List, ap, ap₂, arith, sym, subst, FitsSigned}
use Rattle.std.specs.Int.{w128}
use Rattle.std.proofs.lemmas.Int.{to_z-of_z, fits_signed_from_abs}
use Rattle.cs_num.specs.declared.Sample.{Sample}
use Rattle.lte_types.specs.declared.frame.Half.{Half}
use Rattle.sss_detect.specs.Identity.{IsBest, best_pair}
use Rattle.sss_detect.proofs.Choices.{best_pair_is_best}
use Rattle.accumulated_sss.specs.Votes.{vote}
use Rattle.accumulated_sss.specs.Signs.{signs, cell_matches}
use Rattle.accumulated_sss.specs.Detection.{detection_at, match_counts, pair_of, power_of, signal_sum}
use Rattle.accumulated_sss.specs.Steps.{row_of, signs_of, counts_by, matches_by, signal_sum_by}
use Rattle.accumulated_sss.proofs.Turns.{signs_match, products_sum}
use Rattle.accumulated_sss.proofs.Detections.{counts_match, chosen, not_enough, detection_is_right}
use Rattle.accumulated_sss.proofs.detecting.detect.Goals as goal

-- the pair, and its matches, from the signs of both rows
module _ (recording : List Sample) (halves t n2 : ℕ) (even odd : List ℤ)
    (is_even : even ≡ signs_of (row_of halves t 0 (vote recording n2))) (is_odd : odd ≡ signs_of (row_of halves t 1 (vote recording n2))) where
  pair_is : (n1 : ℕ) (half : Half) → (n1, half) ≡ best_pair (counts_by even odd n2) → (n1, half) ≡ pair_of recording halves t n2
  pair_is n1 half e = e ∙ ap₂ (λ a b. best_pair (counts_by a b n2)) is_even is_odd ∙ ap best_pair (counts_match recording halves t n2)

  matches_are : (n1 m : ℕ) (half : Half) → m ≡ matches_by even odd n2 n1 half → m ≡ cell_matches (signs recording halves t n2) n2 n1 half
  matches_are n1 m half e = e ∙ ap₂ (λ a b. matches_by a b n2 n1 half) is_even is_odd ∙ signs_match recording halves t n2 n1 half

pub returns-then-pair-lt-LEAST_MATCHES-clause-value : goal.returns-then-pair-lt-LEAST_MATCHES-clause-value
unfolding detection_at
returns-then-pair-lt-LEAST_MATCHES-clause-value c =
    let recording = c.args.recording.now in
    let is_even = c.signs.ensures.value ∙ ap signs_of c.row-even.ensures.votes in
    let is_odd = c.signs-2.ensures.value ∙ ap signs_of c.row-odd.ensures.votes in
    let pair = c.most_matching-pair.result in
    let is = pair_is recording c.args.halves c.args.t c.args.n2 c.signs.result c.signs-2.result is_even is_odd pair.n1 pair.half c.most_matching-pair.ensures.pair in
    let count = matches_are recording c.args.halves c.args.t c.args.n2 c.signs.result c.signs-2.result is_even is_odd pair.n1 pair.matches pair.half c.most_matching-pair.ensures.matches in
    let same = count ∙ ap (λ (p : ℕ × Half). cell_matches (signs recording c.args.halves c.args.t c.args.n2) c.args.n2 p.0 p.1) is in
    sym (not_enough (chosen recording c.args.halves c.args.t c.args.n2) (subst (λ n. n < 93) same c.if-pair-lt-LEAST_MATCHES.true))

pub returns-clause-right : goal.returns-clause-right
returns-clause-right c =
    let recording = c.args.recording.now in
    let is_even = c.signs.ensures.value ∙ ap signs_of c.row-even.ensures.votes in
    let is_odd = c.signs-2.ensures.value ∙ ap signs_of c.row-odd.ensures.votes in
    let pair = c.most_matching-pair.result in
    let is = pair_is recording c.args.halves c.args.t c.args.n2 c.signs.result c.signs-2.result is_even is_odd pair.n1 pair.half c.most_matching-pair.ensures.pair in
    let count = matches_are recording c.args.halves c.args.t c.args.n2 c.signs.result c.signs-2.result is_even is_odd pair.n1 pair.matches pair.half c.most_matching-pair.ensures.matches in
    let sum : c.signal_sum-sum.result ≡ signal_sum recording c.args.halves c.args.t c.args.n2 pair.n1 pair.half =
    c.signal_sum-sum.ensures.value ∙ ap₂ (λ a b. signal_sum_by a b c.args.n2 pair.n1 pair.half) c.row-even.ensures.products c.row-odd.ensures.products
    ∙ products_sum recording c.args.halves c.args.t c.args.n2 pair.n1 pair.half in
    let small = c.signal_sum-sum.ensures.small in
    let fits : FitsSigned w128 c.signal_sum-sum.result = fits_signed_from_abs w128 c.signal_sum-sum.result (omega (arith, small)) in
    let power : c.power.result ≡ power_of c.args.halves c.args.n2 c.signal_sum-sum.result = simp to_z-of_z at c.power.ensures in
    record {
      best = subst (λ (p : ℕ × Half). IsBest (match_counts recording c.args.halves c.args.t c.args.n2) p.0 p.1) (sym is)
          (best_pair_is_best (match_counts recording c.args.halves c.args.t c.args.n2));
      matches = count;
      enough = c.if-pair-lt-LEAST_MATCHES.false;
      power = power ∙ ap (power_of c.args.halves c.args.n2) sum;
    }

pub returns-clause-value : goal.returns-clause-value
returns-clause-value c = sym ((detection_is_right c.args.recording.now c.args.halves c.args.t c.args.n2 _).1 (returns-clause-right c))
