use Rattle.std.proofs.Common.{rules, ◌≡◌, ◌-◌, ◌∙◌, arith, ap, w16, FitsSigned}
use Rattle.std.proofs.lemmas.Int.{to_z-of_z}
use Rattle.sss_detect.specs.Identity.{first_greatest}
use Rattle.frequency_offset.specs.Order.{by_magnitude}
use Rattle.frequency_offset.specs.Fine.{best_fit}
use Rattle.frequency_offset.proofs.BestFit.{fit_at, first_fit, next_fit, best_below}
use Rattle.frequency_offset.proofs.fine.best_fit.Goals as goal

pub loop-k-init : goal.loop-k-init
loop-k-init c = first_fit (fit_at c.args.sum)

pub better_fit-best-requires-clause-first : goal.better_fit-best-requires-clause-first
better_fit-best-requires-clause-first c =
    let l = best_below (fit_at c.args.sum) c.loop-k.k c.loop-k.best c.loop-k.invariant in
    omega (arith, l)

pub loop-k-preserved : goal.loop-k-preserved
loop-k-preserved c = next_fit (fit_at c.args.sum) c.loop-k.k c.loop-k.best c.better_fit-best.result (omega arith) c.loop-k.invariant c.better_fit-best.ensures

pub by_magnitude-requires : goal.by_magnitude-requires
by_magnitude-requires c =
    let l = best_below (fit_at c.args.sum) c.loop-k.k c.loop-k.best c.loop-k.invariant in
    omega (arith, l)

pub returns-clause-value : goal.returns-clause-value
unfolding best_fit
returns-clause-value c =
    let last : c.loop-k.k - 1 ≡ 127 = omega arith in
    let f : FitsSigned w16 c.by_magnitude.result = search rules in
    to_z-of_z w16 c.by_magnitude.result f ∙ c.by_magnitude.ensures.value ∙ ap by_magnitude (c.loop-k.invariant ∙ ap (first_greatest (fit_at c.args.sum)) last)
