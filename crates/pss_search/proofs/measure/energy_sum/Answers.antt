use Rattle.std.proofs.Common.{arith, refl, ◌≡◌, ◌∙◌, ◌+◌, ◌≤◌, ap}
use Rattle.finite.specs.Sums.{total_below}
use Rattle.pss_search.specs.Correlation.{energy, energy_term}
use Rattle.cs_num.specs.Complex.{square, sample_at}
use Rattle.finite.proofs.Tests.{each_below_more}
use Rattle.finite.proofs.Sums.{total_below_more}
use Rattle.pss_search.proofs.measure.energy_sum.Goals as goal

pub loop-n-init : goal.loop-n-init
unfolding total_below
loop-n-init c = record { so_far = refl; small = omega arith; each = λ k l. absurd (omega arith) }

pub loop-n-preserved : goal.loop-n-preserved
loop-n-preserved c =
    let before = c.loop-n.invariant.so_far in
    let here = c.energy_part-sum.ensures.value in
    let more = total_below_more c.loop-n.n (energy_term c.args.samples.now c.args.t) in
    let square_here : square (sample_at c.args.samples.now (c.args.t + c.loop-n.n)) ≤ 2147483648 = omega (arith, here, c.energy_part-sum.ensures.small) in
    record {
      so_far = cc;
      small = omega arith;
      each = each_below_more (λ k. square (sample_at c.args.samples.now (c.args.t + k)) ≤ 2147483648) c.loop-n.n c.loop-n.invariant.each square_here;
    }

pub returns-clause-value : goal.returns-clause-value
unfolding energy
returns-clause-value c =
    let last : c.loop-n.n ≡ 128 = omega arith in
    c.loop-n.invariant.so_far ∙ ap (λ n. total_below n (energy_term c.args.samples.now c.args.t)) last

pub returns-clause-each : goal.returns-clause-each
returns-clause-each c = λ n l. c.loop-n.invariant.each n (omega arith)
