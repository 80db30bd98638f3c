use Rattle.std.proofs.Common.{◌≡◌, ◌∙◌, ◌+◌, ◌-◌, ◌*◌, ◌/◌, ◌^◌, ℕ, ℤ, arith, ap, ap₂, subst, sym}
use Rattle.finite.specs.Sums.{sum_below}
use Rattle.finite.specs.Lists.{values_below}
use Rattle.finite.proofs.Items.{All-wider}
use Rattle.accumulated_sss.specs.Votes.{product, vote}
use Rattle.accumulated_sss.specs.Signs.{every_other, primary_at}
use Rattle.accumulated_sss.specs.Steps.{row_of, votes_of}
use Rattle.accumulated_sss.proofs.SoFar.{AreSums, no_sums, more_sums}
use Rattle.accumulated_sss.proofs.Turns.{votes_are}
use Rattle.accumulated_sss.proofs.rows.row.Goals as goal

pub loop-j-init : goal.loop-j-init
loop-j-init c = record {
  votes = no_sums (λ j. vote c.args.recording.now c.args.n2 (primary_at c.args.t (2 * j + c.args.parity)));
  products = no_sums (λ j. product c.args.recording.now c.args.n2 (primary_at c.args.t (2 * j + c.args.parity)));
}

pub loop-j-preserved : goal.loop-j-preserved
loop-j-preserved c =
    let recording = c.args.recording.now in
    let j = c.loop-j.j in
    let at = c.args.t + 9600 * (2 * j + c.args.parity) in
    let f : ℕ → ℕ → ℤ = λ j. vote recording c.args.n2 (primary_at c.args.t (2 * j + c.args.parity)) in
    let g : ℕ → ℕ → ℤ = λ j. product recording c.args.n2 (primary_at c.args.t (2 * j + c.args.parity)) in
    record {
      votes = subst (AreSums (j + 1) f) (sym c.added-vote_sums.ensures) (more_sums j f c.loop-j.vote_sums c.votes_for-votes.result c.loop-j.invariant.votes
          (c.votes_for-votes.ensures.value ∙ ap₂ votes_of c.energy_of_both.ensures.value c.products-here.ensures.value ∙ votes_are recording c.args.n2 at)
          c.votes_for-votes.ensures.small);
      products = subst (AreSums (j + 1) g) (sym c.added-product_sums.ensures) (more_sums j g c.loop-j.product_sums c.products-here.result c.loop-j.invariant.products
          c.products-here.ensures.value c.products-here.ensures.small);
    }

pub returns-clause-votes : goal.returns-clause-votes
unfolding row_of every_other
returns-clause-votes c =
    let last : c.loop-j.j ≡ (c.args.halves + 1 - c.args.parity) / 2 = omega arith in
    c.loop-j.invariant.votes.are
    ∙ ap (λ m. values_below 62 (λ i. sum_below m (λ j. vote c.args.recording.now c.args.n2 (primary_at c.args.t (2 * j + c.args.parity)) i))) last

pub returns-clause-products : goal.returns-clause-products
unfolding row_of every_other
returns-clause-products c =
    let last : c.loop-j.j ≡ (c.args.halves + 1 - c.args.parity) / 2 = omega arith in
    c.loop-j.invariant.products.are
    ∙ ap (λ m. values_below 62 (λ i. sum_below m (λ j. product c.args.recording.now c.args.n2 (primary_at c.args.t (2 * j + c.args.parity)) i))) last

pub returns-clause-few_votes : goal.returns-clause-few_votes
returns-clause-few_votes c = All-wider (c.loop-j.j * 2 ^ 57) (2 ^ 64) c.loop-j.vote_sums (omega arith) c.loop-j.invariant.votes.small

pub returns-clause-few_products : goal.returns-clause-few_products
returns-clause-few_products c = All-wider (c.loop-j.j * 2 ^ 57) (2 ^ 64) c.loop-j.product_sums (omega arith) c.loop-j.invariant.products.small
