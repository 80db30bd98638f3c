use Rattle.std.proofs.Common.{arith, refl, ◌≡◌, ◌∙◌, ap}
use Rattle.finite.specs.Sums.{total_below}
use Rattle.finite.proofs.Sums.{total_below_more}
use Rattle.pss_search.specs.Correlation.{energy, energy_term}
use Rattle.accumulated_sss.proofs.votes.energy_at.Goals as goal

pub loop-n-init : goal.loop-n-init
unfolding total_below
loop-n-init c = record { so_far = refl; small = omega arith }

pub loop-n-preserved : goal.loop-n-preserved
loop-n-preserved c =
    let before = c.loop-n.invariant.so_far in
    let here = c.square_of-sum.ensures.value in
    let more = total_below_more c.loop-n.n (energy_term c.args.samples.now c.args.at) in
    record { so_far = cc; small = omega arith }

pub returns-clause-value : goal.returns-clause-value
unfolding energy
returns-clause-value c =
    let last : c.loop-n.n ≡ 128 = omega arith in
    c.loop-n.invariant.so_far ∙ ap (λ n. total_below n (energy_term c.args.samples.now c.args.at)) last
